use Rattle.std.proofs.Common.{length}
use Rattle.std.proofs.lemmas.Result.{err_from_is_err_and}
use Rattle.tib_grammar.proofs.Positions.{rules_in_range}
use Rattle.tib_image.specs.Parsing.{first_key}
use Rattle.tib_image.proofs.ParseAnswering.{few_keys, few_rules, reached_of, parts_are, beyond_of, class_fault, hunt_fault}
use Rattle.tib_reached.proofs.parsing.parse.Goals as goal

pub returns-clause-reached : goal.returns-clause-reached
returns-clause-reached g c =
    reached_of c.args.transducer.now c.args.string.now c.in_ok-problem.problem.transducer.now c.in_ok-problem.ensures.transducer c.in_ok-problem.problem.string.now c.in_ok-problem.ensures.string c.in_ok-found.found.order.items c.in_ok-found.found.rules.items
    (c.in_ok-found.ensures.reached (first_key (length c.in_ok-problem.problem.string.now)))

pub returns-clause-range : goal.returns-clause-range
returns-clause-range g c = rules_in_range (length c.in_ok-found.found.order.items) c.in_ok-found.found.rules.items c.in_ok-found.ensures.positions

pub returns-clause-series : goal.returns-clause-series
returns-clause-series g c t v =
    c.reached_parses.ensures c.args.transducer.now.rules c.is_sound.ensures.shaped c.in_ok-problem.ensures.linear c.in_ok-problem.ensures.nondeleting c.args.string.now c.in_ok-found.found.order.items c.in_ok-found.found.rules.items
    (returns-clause-range g c) (returns-clause-reached g c) t v

pub returns-clause-parts : goal.returns-clause-parts
returns-clause-parts g c =
    parts_are c.args.transducer.now c.args.string.now c.in_ok-problem.problem.transducer.now c.in_ok-problem.ensures.transducer c.in_ok-problem.problem.string.now c.in_ok-problem.ensures.string c.in_ok-found.found.parts c.in_ok-found.found.order.items c.in_ok-found.found.rules.items
    (c.in_ok-found.ensures.parts (first_key (length c.in_ok-problem.problem.string.now)))

pub returns-clause-few : goal.returns-clause-few
returns-clause-few g c =
    few_keys c.args.transducer.now c.args.string.now c.in_ok-found.found.order.items c.in_ok-found.found.rules.items c.in_ok-found.found.parts c.args.limit (returns-clause-parts g c) c.in_ok-found.ensures.within

pub returns-clause-few_rules : goal.returns-clause-few_rules
returns-clause-few_rules g c =
    few_rules c.args.transducer.now c.args.string.now c.in_ok-found.found.order.items c.in_ok-found.found.rules.items c.in_ok-found.found.parts c.args.limit (returns-clause-parts g c) c.in_ok-found.ensures.within

pub returns-in_err-problem-clause-fault : goal.returns-in_err-problem-clause-fault
returns-in_err-problem-clause-fault g c =
    let p = err_from_is_err_and c.from_residual.result c.from_residual.ensures.1 in
    rw (p.1, p.2) (class_fault c.args.transducer.now.rules c.args.string.now c.args.limit c.in_err-problem.field-0.0 c.in_err-problem.ensures.fault)

pub returns-in_err-found-clause-fault : goal.returns-in_err-found-clause-fault
returns-in_err-found-clause-fault g c =
    let p = err_from_is_err_and c.from_residual-in_err-found.result c.from_residual-in_err-found.ensures.1 in
    rw (p.1, p.2)
    (hunt_fault c.args.transducer.now.rules c.args.string.now c.args.limit _ c.in_ok-problem.ensures.linear c.in_ok-problem.ensures.nondeleting
    (beyond_of c.args.transducer.now c.args.string.now c.in_ok-problem.problem.transducer.now c.in_ok-problem.ensures.transducer c.in_ok-problem.problem.string.now c.in_ok-problem.ensures.string c.args.limit)
    c.in_err-found.field-0.0 c.in_err-found.ensures.more)
