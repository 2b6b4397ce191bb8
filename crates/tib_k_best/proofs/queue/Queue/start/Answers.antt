use Rattle.std.specs.Prelude.{ℕ, List, ◌-◌}
use Rattle.std.proofs.Common.{arith, rules, subst}
use Rattle.tib_k_best.specs.Queues.{rules_before, IsQueue}
use Rattle.tib_k_best.proofs.Starting.{before_more, all_begun}
use Rattle.tib_k_best.proofs.queue.Queue.start.Goals as goal

pub advance-requires-clause-queue : goal.advance-requires-clause-queue
advance-requires-clause-queue g c = (
  rules_before (c.loop-rest.rest - 1),
  subst (λ (out : List ℕ). IsQueue g.S.Semiring.product c.loop-rest.lists c.loop-rest.self out) (before_more c.loop-rest.rest (c.loop-rest.rest - 1) (omega arith)) c.loop-rest.invariant.1,
)

pub loop-rest-preserved : goal.loop-rest-preserved
loop-rest-preserved g c = (
  omega arith,
  c.in_ok-advance.ensures.queue (rules_before (c.loop-rest.rest - 1))
      (subst (λ (out : List ℕ). IsQueue g.S.Semiring.product c.loop-rest.lists c.loop-rest.self out) (before_more c.loop-rest.rest (c.loop-rest.rest - 1) (omega arith)) c.loop-rest.invariant.1),
  search rules,
)

pub returns-clause-settled : goal.returns-clause-settled
returns-clause-settled g c =
    all_begun g.S.Semiring.product c.args.lists.now c.loop-rest.lists c.loop-rest.self c.loop-rest.rest (omega arith) c.loop-rest.invariant.1 c.loop-rest.invariant.2 c.requires.none
