use Rattle.std.proofs.Common.{length}
use Rattle.std.proofs.lemmas.Result.{err_from_is_err_and}
use Rattle.tib_apply.specs.Backward.{IsBackwardEdge}
use Rattle.tib_apply.proofs.AppliedKeys.{rules_in_range, few_keys, few_rules, reached_of, beyond_of}
use Rattle.tib_apply.proofs.Faults.{class_fault, hunt_fault}
use Rattle.tib_reached.proofs.backward.apply_backward_together.Goals as goal

pub returns-clause-reached : goal.returns-clause-reached
returns-clause-reached g c =
    reached_of g.S.Semiring.product c.in_ok-backward.backward.transducer.now c.in_ok-backward.backward.grammar.now c.args.transducer.now c.args.grammar.now c.in_ok-backward.ensures.transducer c.in_ok-backward.ensures.grammar c.in_ok-found.found.order.items _
    (c.in_ok-found.ensures.reached (0, 0, 0))

pub returns-clause-range : goal.returns-clause-range
returns-clause-range g c = rules_in_range (length c.in_ok-found.found.order.items) c.in_ok-found.found.rules.items c.in_ok-found.ensures.positions

pub returns-clause-parts : goal.returns-clause-parts
returns-clause-parts g c = c.in_ok-found.ensures.parts (0, 0, 0)

pub returns-clause-few : goal.returns-clause-few
returns-clause-few g c =
    few_keys (IsBackwardEdge g.S.Semiring.product c.args.transducer.now.rules c.args.grammar.now.rules) c.in_ok-found.found.order.items c.in_ok-found.found.rules.items c.in_ok-found.found.parts c.args.limit
    (returns-clause-parts g c) c.in_ok-found.ensures.within

pub returns-clause-few_rules : goal.returns-clause-few_rules
returns-clause-few_rules g c =
    few_rules (IsBackwardEdge g.S.Semiring.product c.args.transducer.now.rules c.args.grammar.now.rules) c.in_ok-found.found.order.items c.in_ok-found.found.rules.items c.in_ok-found.found.parts c.args.limit
    (returns-clause-parts g c) c.in_ok-found.ensures.within

pub returns-in_err-backward-clause-fault : goal.returns-in_err-backward-clause-fault
returns-in_err-backward-clause-fault g c =
    let p = err_from_is_err_and c.from_residual.result c.from_residual.ensures.1 in
    rw (p.1, p.2) (class_fault _ c.args.transducer.now.rules c.args.limit _ c.in_err-backward.field-0.0 c.in_err-backward.ensures.fault)

pub returns-in_err-found-clause-fault : goal.returns-in_err-found-clause-fault
returns-in_err-found-clause-fault g c =
    let p = err_from_is_err_and c.from_residual-in_err-found.result c.from_residual-in_err-found.ensures.1 in
    rw (p.1, p.2)
    (hunt_fault _ c.args.transducer.now.rules c.args.limit _ _ c.in_ok-backward.ensures.class
    (beyond_of g.S.Semiring.product c.in_ok-backward.backward.transducer.now c.in_ok-backward.backward.grammar.now c.args.transducer.now c.args.grammar.now c.in_ok-backward.ensures.transducer c.in_ok-backward.ensures.grammar c.args.limit)
    c.in_err-found.field-0.0 c.in_err-found.ensures.more)
