use Rattle.std.proofs.Common.{refl, ◌+◌}
use Rattle.std.specs.Prelude.{reverse}
use Rattle.tib_normal.specs.NormalForm.{rule_parts}
use Rattle.tib_normal.specs.Rows.{AreTooMany, HasMoreParts}
use Rattle.tib_normal.proofs.Forming.{form_made, made_within, made_many, places_many, if_many}
use Rattle.tib_normal.proofs.normal_form.list_rules.Goals as goal
use Rattle.tib_lex.specs.Lists.{total}

pub returns-in-None-clause-many : goal.returns-in-None-clause-many
returns-in-None-clause-many g c = (refl, places_many g.S.Semiring.product c.args.states c.args.rules.now c.args.limit c.in-None.ensures.many)

pub returns-in-Err-clause-many : goal.returns-in-Err-clause-many
returns-in-Err-clause-many g c =
    if_many c.in-Err.fault c.args.limit (AreTooMany g.S.Semiring.product c.args.states c.args.rules.now c.in-Some.places.parts c.args.limit) (HasMoreParts g.S.Semiring.product c.args.states c.args.rules.now c.args.limit)
    (made_many g.S.Semiring.product c.args.states c.args.rules.now c.in-Some.places.parts c.args.limit c.in-Some.ensures.parts) c.in-Err.ensures.many

pub returns-clause-form : goal.returns-clause-form
returns-clause-form g c =
    form_made g.S.Semiring.product c.args.states c.in-Some.places.states c.args.rules.now c.in-Ok.own.items (reverse c.in_ok-sides.sides.inner.items) c.in_ok-rules.rules.items
    c.in-Ok.ensures.own c.in-Some.ensures.counted c.in_ok-sides.ensures.inner c.in_ok-rules.ensures

pub returns-clause-within : goal.returns-clause-within
returns-clause-within g c =
    made_within c.args.states c.in-Some.places.states c.args.limit (c.in-Some.places.parts + total rule_parts c.in-Ok.own.items) c.in-Some.places.parts c.args.rules.now c.in-Ok.own.items (reverse c.in_ok-sides.sides.inner.items)
    c.in_ok-rules.rules.items c.in-Some.ensures.counted c.in_ok-sides.ensures.inner c.in_ok-rules.ensures c.in-Some.ensures.parts refl c.in-Ok.ensures.within
