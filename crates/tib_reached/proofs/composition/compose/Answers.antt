use Rattle.std.proofs.Common.{◌≡◌, sym, subst}
use Rattle.std.proofs.lemmas.Result.{err_from_is_err_and}
use Rattle.tib_transducer.specs.Range.{AreShaped}
use Rattle.tib_transducer.specs.TransducerOf.{TransducerOf}
use Rattle.tib_compose.proofs.Faults.{class_fault, hunt_fault}
use Rattle.tib_compose.proofs.Hunted.{reached_of, beyond_of, rules_within, few_keys, few_rules, rules_shaped}
use Rattle.tib_reached.proofs.composition.compose.Goals as goal

pub returns-clause-reached : goal.returns-clause-reached
returns-clause-reached g c =
    reached_of g.S.Semiring.product c.in_ok-composite.composite.first.now c.in_ok-composite.composite.second.now c.args.first.now c.args.second.now c.in_ok-composite.ensures.first c.in_ok-composite.ensures.second
    c.in_ok-found.found.order.items _ (c.in_ok-found.ensures.reached (0, 0))

pub returns-clause-range : goal.returns-clause-range
returns-clause-range g c = rules_within _ c.in_ok-found.found.rules.items c.in_ok-found.ensures.positions

pub returns-clause-shaped : goal.returns-clause-shaped
returns-clause-shaped g c =
    rules_shaped g.S.Semiring.product c.in_ok-composite.composite.first.now.rules c.in_ok-composite.composite.second.now.rules c.in_ok-found.found.order.items c.in_ok-found.found.rules.items
    (subst (λ (t : TransducerOf). AreShaped t.rules) (sym c.in_ok-composite.ensures.first) c.is_sound.ensures.shaped)
    (c.in_ok-found.ensures.reached (0, 0)) (rules_within _ c.in_ok-found.found.rules.items c.in_ok-found.ensures.positions)

pub returns-clause-parts : goal.returns-clause-parts
returns-clause-parts g c = c.in_ok-found.ensures.parts (0, 0)

pub returns-clause-few : goal.returns-clause-few
returns-clause-few g c =
    few_keys g.S.Semiring.product c.in_ok-composite.composite.first.now.rules c.in_ok-composite.composite.second.now.rules c.in_ok-found.found.order.items c.in_ok-found.found.rules.items c.in_ok-found.found.parts c.args.limit
    (c.in_ok-found.ensures.parts (0, 0)) c.in_ok-found.ensures.within

pub returns-clause-few_rules : goal.returns-clause-few_rules
returns-clause-few_rules g c =
    few_rules g.S.Semiring.product c.in_ok-composite.composite.first.now.rules c.in_ok-composite.composite.second.now.rules c.in_ok-found.found.order.items c.in_ok-found.found.rules.items c.in_ok-found.found.parts c.args.limit
    (c.in_ok-found.ensures.parts (0, 0)) c.in_ok-found.ensures.within

pub returns-in_err-composite-clause-fault : goal.returns-in_err-composite-clause-fault
returns-in_err-composite-clause-fault g c =
    let p = err_from_is_err_and c.from_residual.result c.from_residual.ensures.1 in
    rw (p.1, p.2) (class_fault c.args.second.now.rules c.args.limit _ c.in_err-composite.field-0.0 c.in_err-composite.ensures.fault)

pub returns-in_err-found-clause-fault : goal.returns-in_err-found-clause-fault
returns-in_err-found-clause-fault g c =
    let p = err_from_is_err_and c.from_residual-in_err-found.result c.from_residual-in_err-found.ensures.1 in
    rw (p.1, p.2)
    (hunt_fault c.args.second.now.rules c.args.limit _ _ c.in_ok-composite.ensures.class
    (beyond_of g.S.Semiring.product c.in_ok-composite.composite.first.now c.in_ok-composite.composite.second.now c.args.first.now c.args.second.now c.in_ok-composite.ensures.first c.in_ok-composite.ensures.second c.args.limit)
    c.in_err-found.field-0.0 c.in_err-found.ensures.more)
