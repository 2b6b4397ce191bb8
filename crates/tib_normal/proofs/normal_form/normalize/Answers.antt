use Rattle.std.proofs.Common.{◌≡◌, ◌+◌, ℕ, List, length, arith, ap, sym, subst}
use Rattle.tib_grammar.specs.Range.{AreInRange, AreLone}
use Rattle.tib_normal.proofs.Forming.{form_range, form_normal, few_rules}
use Rattle.tib_normal.proofs.Normalizing.{normalized}
use Rattle.tib_normal.proofs.normal_form.normalize.Goals as goal
use Rattle.tib_grammar.specs.Series.{KeepsSeries}

pub assemble-requires-clause-few_rules : goal.assemble-requires-clause-few_rules
assemble-requires-clause-few_rules g c = omega (arith, few_rules c.in-Ok.listed.rules.items, c.in-Ok.ensures.within, c.requires.to)

pub assemble-requires-clause-range : goal.assemble-requires-clause-range
assemble-requires-clause-range g c =
    let range : AreInRange c.states.result c.rule_list.result.now =
    subst (λ z. AreInRange z c.rule_list.result.now) (sym c.states.ensures) (subst (AreInRange (length c.args.grammar.now.names)) (sym c.rule_list.ensures) c.is_sound.ensures.range)
    in
    let names : length c.names.result.now ≡ length c.args.grammar.now.names = ap (λ (z : List (List ℕ)). length z) c.names.ensures in
    let all : c.states.result + c.in-Ok.listed.places ≡ length c.names.result.now + c.in-Ok.listed.places = omega (arith, names, c.states.ensures) in
    subst (λ z. AreInRange z c.in-Ok.listed.rules.items) all
    (form_range g.S.Semiring.product c.states.result c.rule_list.result.now (c.states.result + c.in-Ok.listed.places) c.in-Ok.listed.rules.items c.in-Ok.ensures.form range (subst AreLone (sym c.rule_list.ensures) c.is_sound.ensures.lone))

pub assemble-requires-clause-normal : goal.assemble-requires-clause-normal
assemble-requires-clause-normal g c =
    form_normal g.S.Semiring.product c.states.result c.rule_list.result.now (c.states.result + c.in-Ok.listed.places) c.in-Ok.listed.rules.items c.in-Ok.ensures.form

pub returns-in-Ok-assemble-clause-series : goal.returns-in-Ok-assemble-clause-series
returns-in-Ok-assemble-clause-series g c =
    let range : AreInRange c.states.result c.rule_list.result.now =
    subst (λ z. AreInRange z c.rule_list.result.now) (sym c.states.ensures) (subst (AreInRange (length c.args.grammar.now.names)) (sym c.rule_list.ensures) c.is_sound.ensures.range)
    in
    let kept : KeepsSeries g.S.Semiring.product c.states.result c.rule_list.result.now c.in-Ok.listed.rules.items =
    normalized g.met.S.Semiring.laws c.states.result c.rule_list.result.now range (subst AreLone (sym c.rule_list.ensures) c.is_sound.ensures.lone) (c.states.result + c.in-Ok.listed.places) c.in-Ok.listed.rules.items
    c.in-Ok.ensures.form
    in
    subst (λ z. KeepsSeries g.S.Semiring.product z c.args.grammar.now.rules c.in-Ok-assemble.normal.rules) c.states.ensures
    (subst (λ z. KeepsSeries g.S.Semiring.product c.states.result z c.in-Ok-assemble.normal.rules) c.rule_list.ensures
    (subst (KeepsSeries g.S.Semiring.product c.states.result c.rule_list.result.now) (sym c.in-Ok-assemble.ensures.rules) kept))
