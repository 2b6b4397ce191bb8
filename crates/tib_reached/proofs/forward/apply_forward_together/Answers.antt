use Rattle.std.proofs.lemmas.Result.{err_from_is_err_and}
use Rattle.tib_grammar.proofs.Positions.{rules_in_range}
use Rattle.tib_apply.proofs.ForwardTables.{answer_reached, answer_beyond, few_keys, few_rules}
use Rattle.tib_apply.proofs.Faults.{class_fault, hunt_fault}
use Rattle.tib_reached.proofs.forward.apply_forward_together.Goals as goal

pub returns-clause-reached : goal.returns-clause-reached
returns-clause-reached g c =
    answer_reached (g.met.S.Semiring g.world.𝓛 g.world.𝓜 g.world.𝓡 ((λ s x. x), (λ x. x), (λ x. x), λ x. x)).laws c.in_ok-forward.forward.grammar.now c.args.grammar.now c.in_ok-forward.forward.transducer.now c.args.transducer.now c.in_ok-forward.ensures.grammar c.in_ok-forward.ensures.transducer c.in_ok-forward.forward.runs c.in_ok-forward.ensures.least
    c.in_ok-found.found.order.items _ (c.in_ok-found.ensures.reached (0, 0, 0))

pub returns-clause-range : goal.returns-clause-range
returns-clause-range g c = rules_in_range _ c.in_ok-found.found.rules.items c.in_ok-found.ensures.positions

pub returns-clause-parts : goal.returns-clause-parts
returns-clause-parts g c = c.in_ok-found.ensures.parts (0, 0, 0)

pub returns-clause-few : goal.returns-clause-few
returns-clause-few g c =
    few_keys c.in_ok-found.found.order.items c.in_ok-found.found.rules.items c.in_ok-found.found.parts c.args.limit (c.in_ok-found.ensures.parts (0, 0, 0)) c.in_ok-found.ensures.within

pub returns-clause-few_rules : goal.returns-clause-few_rules
returns-clause-few_rules g c =
    few_rules c.in_ok-found.found.order.items c.in_ok-found.found.rules.items c.in_ok-found.found.parts c.args.limit (c.in_ok-found.ensures.parts (0, 0, 0)) c.in_ok-found.ensures.within

pub returns-in_err-forward-clause-fault : goal.returns-in_err-forward-clause-fault
returns-in_err-forward-clause-fault g c =
    let p = err_from_is_err_and c.from_residual.result c.from_residual.ensures.1 in
    rw (p.1, p.2) (class_fault _ c.args.transducer.now.rules c.args.limit _ c.in_err-forward.field-0.0 c.in_err-forward.ensures.fault)

pub returns-in_err-found-clause-fault : goal.returns-in_err-found-clause-fault
returns-in_err-found-clause-fault g c =
    let p = err_from_is_err_and c.from_residual-in_err-found.result c.from_residual-in_err-found.ensures.1 in
    rw (p.1, p.2)
    (hunt_fault _ c.args.transducer.now.rules c.args.limit _ _ c.in_ok-forward.ensures.class
    (answer_beyond (g.met.S.Semiring g.world.𝓛 g.world.𝓜 g.world.𝓡 ((λ s x. x), (λ x. x), (λ x. x), λ x. x)).laws c.in_ok-forward.forward.grammar.now c.args.grammar.now c.in_ok-forward.forward.transducer.now c.args.transducer.now c.in_ok-forward.ensures.grammar c.in_ok-forward.ensures.transducer c.in_ok-forward.forward.runs c.in_ok-forward.ensures.least c.args.limit)
    c.in_err-found.field-0.0 c.in_err-found.ensures.more)
