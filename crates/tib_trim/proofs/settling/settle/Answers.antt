use Rattle.std.proofs.Common.{arith, sym, ap, ◌∙◌, subst, length, List, ℕ, ◌<◌}
use Rattle.std.specs.Prelude.{Option, Some, None, slice_set}
use Rattle.std.proofs.lemmas.List.{get_or_read, get_or-set_same, length-set}
use Rattle.tib_grammar.specs.Range.{AreInRange}
use Rattle.tib_inside.specs.Settling.{costs_in}
use Rattle.tib_inside.proofs.Moving.{settled_less, has_some, has_none}
use Rattle.tib_prune.specs.Telling.{Adds, places_of}
use Rattle.tib_prune.proofs.Looping.{goes, drops}
use Rattle.tib_trim.specs.Links.{AreLinks}
use Rattle.tib_trim.specs.Telling.{IsToldAfter}
use Rattle.tib_trim.proofs.ToldItems.{tells_of}
use Rattle.tib_trim.proofs.settling.settle.Goals as goal

pub returns-then-is_some-clause-settling : goal.returns-then-is_some-clause-settling
returns-then-is_some-clause-settling g c =
    let at = get_or_read c.args.outsides.now.items c.args.entry.1 c.index.result.now (omega (arith, c.requires.state, c.requires.as_many)) c.index.ensures None in
    let known = has_some c.index.result.now (sym c.is_some.ensures ∙ c.if-is_some.true) in
    drops g.met.S.Semiring.laws c.args.rules.now c.args.insides.now c.args.outsides.now.items c.args.entry c.args.agenda.now known.0 c.requires.taken (sym at ∙ known.1)

pub returns-clause-settling : goal.returns-clause-settling
returns-clause-settling g c =
    let inside : c.args.entry.1 < length c.args.outsides.now.items = omega (arith, c.requires.state, c.requires.as_many) in
    let at = get_or_read c.args.outsides.now.items c.args.entry.1 c.index.result.now inside c.index.ensures None in
    let unknown = has_none c.index.result.now (sym c.is_some.ensures ∙ c.if-is_some.false) in
    goes g.met.S.Semiring.laws c.args.rules.now c.args.insides.now c.args.outsides.now.items c.args.entry c.args.agenda.now c.tell.new.agenda c.requires.insides inside c.requires.taken (sym at ∙ unknown)
    (tells_of g.met.S.Semiring.laws c.args.rules.now (costs_in c.args.insides.now) (costs_in (slice_set c.args.outsides.now.items c.args.entry.1 (Some c.args.entry.0))) c.args.entry.1 c.args.entry.0
    (get_or-set_same c.args.outsides.now.items c.args.entry.1 (Some c.args.entry.0) None inside) c.args.agenda.now c.tell.new.agenda
    (subst (λ (xs : List (Option ℕ)). Adds (costs_in xs) (IsToldAfter g.S.Semiring.product (costs_in c.args.insides.now) c.args.rules.now c.args.entry.1 c.args.entry.0 0) (places_of c.args.rules.now) c.args.agenda.now c.tell.new.agenda) c.deref.ensures.value c.in_ok-tell.ensures))

pub returns-clause-less : goal.returns-clause-less
returns-clause-less g c =
    let inside : c.args.entry.1 < length c.args.outsides.now.items = omega (arith, c.requires.state, c.requires.as_many) in
    let at = get_or_read c.args.outsides.now.items c.args.entry.1 c.index.result.now inside c.index.ensures None in
    let unknown = has_none c.index.result.now (sym c.is_some.ensures ∙ c.if-is_some.false) in
    settled_less (places_of c.args.rules.now) c.args.outsides.now.items c.args.entry.1 c.args.entry.0 c.args.agenda.now c.tell.new.agenda inside (sym at ∙ unknown) c.in_ok-tell.ensures.more

pub tell-requires-clause-links : goal.tell-requires-clause-links
tell-requires-clause-links g c =
    let long = ap length c.deref.ensures.value ∙ length-set c.args.outsides.now.items c.args.entry.1 (Some c.args.entry.0) ∙ c.requires.as_many in
    subst (λ n. AreLinks c.args.rules.now n c.args.links.now) (sym long) c.requires.links

pub tell-requires-clause-state : goal.tell-requires-clause-state
tell-requires-clause-state g c =
    let long = ap length c.deref.ensures.value ∙ length-set c.args.outsides.now.items c.args.entry.1 (Some c.args.entry.0) ∙ c.requires.as_many in
    omega (arith, long, c.requires.state)

pub tell-requires-clause-outsides : goal.tell-requires-clause-outsides
tell-requires-clause-outsides g c =
    let long = ap length c.deref.ensures.value ∙ length-set c.args.outsides.now.items c.args.entry.1 (Some c.args.entry.0) ∙ c.requires.as_many in
    subst (λ n. AreInRange n c.args.rules.now) (sym long) c.requires.range
