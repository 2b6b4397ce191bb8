use Rattle.std.proofs.Common.{arith, subst, sym}
use Rattle.tib_ranked_trees.specs.Levels.{IsOrderly}
use Rattle.tib_k_best.proofs.Starting.{cause_among, firsts_end}
use Rattle.tib_k_best.proofs.queue.Queue.settle_all.Goals as goal

pub settle-requires-clause-orderly : goal.settle-requires-clause-orderly
settle-requires-clause-orderly g c = subst (λ rs. IsOrderly g.S.Semiring.product rs) (sym c.loop-candidate.invariant.1) c.requires.orderly

pub returns-in-Err-clause-cause : goal.returns-in-Err-clause-cause
returns-in-Err-clause-cause g c =
    cause_among g.S.Semiring.product c.args.lists.now.labels c.loop-candidate.lists.labels c.args.lists.now.rules c.loop-candidate.lists.rules c.loop-candidate.invariant.2 c.loop-candidate.invariant.1 1 1 (omega arith) c.in-Err.error c.in-Err.ensures.cause

pub returns-clause-firsts : goal.returns-clause-firsts
returns-clause-firsts g c =
    firsts_end g.met.S.Semiring.laws c.loop-candidate.lists c.loop-candidate.self (subst (λ rs. IsOrderly g.S.Semiring.product rs) (sym c.loop-candidate.invariant.1) c.requires.orderly)
    c.loop-candidate.invariant.0 c.in_default.ensures.none
