use Rattle.std.specs.Prelude.{[], length}
use Rattle.std.proofs.Common.{arith, ap, rules}
use Rattle.tib_k_best.proofs.Queueing.{left_popped, popped, passes}
use Rattle.tib_k_best.proofs.queue.Queue.release.Goals as goal

pub advance-requires-clause-queue : goal.advance-requires-clause-queue
advance-requires-clause-queue g c = (
  [],
  (popped g.S.Semiring.product c.loop-item.lists c.loop-item.self c.args.state c.in-Some.item c.pop_waiting.new.self [] c.loop-item.invariant.0
      (omega (arith, c.requires.state, c.loop-item.invariant.0.long, ap (λ ls. length ls) c.loop-item.invariant.1.lists)) c.in-Some.ensures.some).0,
)

pub advance-requires-clause-rule : goal.advance-requires-clause-rule
advance-requires-clause-rule g c =
    (popped g.S.Semiring.product c.loop-item.lists c.loop-item.self c.args.state c.in-Some.item c.pop_waiting.new.self [] c.loop-item.invariant.0
    (omega (arith, c.requires.state, c.loop-item.invariant.0.long, ap (λ ls. length ls) c.loop-item.invariant.1.lists)) c.in-Some.ensures.some).1.rule

pub advance-requires-clause-from : goal.advance-requires-clause-from
advance-requires-clause-from g c =
    let p = (popped g.S.Semiring.product c.loop-item.lists c.loop-item.self c.args.state c.in-Some.item c.pop_waiting.new.self [] c.loop-item.invariant.0
    (omega (arith, c.requires.state, c.loop-item.invariant.0.long, ap (λ ls. length ls) c.loop-item.invariant.1.lists)) c.in-Some.ensures.some).1 in
    omega (arith, p.place)

pub advance-requires-clause-before : goal.advance-requires-clause-before
advance-requires-clause-before g c =
    let p = (popped g.S.Semiring.product c.loop-item.lists c.loop-item.self c.args.state c.in-Some.item c.pop_waiting.new.self [] c.loop-item.invariant.0
    (omega (arith, c.requires.state, c.loop-item.invariant.0.long, ap (λ ls. length ls) c.loop-item.invariant.1.lists)) c.in-Some.ensures.some).1 in
    passes c.args.lists.now c.loop-item.lists c.args.state c.in-Some.item p c.loop-item.invariant.1.lists c.requires.tree

pub loop-item-preserved : goal.loop-item-preserved
loop-item-preserved g c =
    let p = (popped g.S.Semiring.product c.loop-item.lists c.loop-item.self c.args.state c.in-Some.item c.pop_waiting.new.self [] c.loop-item.invariant.0
    (omega (arith, c.requires.state, c.loop-item.invariant.0.long, ap (λ ls. length ls) c.loop-item.invariant.1.lists)) c.in-Some.ensures.some).0 in
    let less = left_popped c.loop-item.self c.args.state c.in-Some.item c.pop_waiting.new.self
    (omega (arith, c.requires.state, c.loop-item.invariant.0.long, ap (λ ls. length ls) c.loop-item.invariant.1.lists)) c.in-Some.ensures.some in
    (c.in_ok-advance.ensures.queue [] p, search rules, omega (arith, less, c.in_ok-advance.ensures.more, c.loop-item.invariant.2), search rules)
