use Rattle.std.specs.Prelude.{◌≡◌, length}
use Rattle.std.proofs.Common.{arith, ap, ◌∙◌}
use Rattle.tib_ranked_trees.specs.Held.{below_of, candidate_at}
use Rattle.tib_ranked_trees.specs.declared.lists.Candidate.{Candidate}
use Rattle.tib_lazy_lists.specs.AskingOf.{asking_of}
use Rattle.tib_lazy_lists.proofs.Stacked.{next_all}
use Rattle.tib_lazy_lists.proofs.asking.Asking.next_below.Goals as goal

pub returns-clause-next : goal.returns-clause-next
returns-clause-next g c =
    let x = c.args.lists.now in
    let long : c.count-count.result ≡ length (below_of x (candidate_at x c.args.above.last)) = c.count-count.ensures.many ∙ ap (λ (d : Candidate). length (below_of x d)) c.candidate.ensures in
    next_all g.S.Semiring.product x (asking_of c.args.self.now) c.args.above (length (below_of x (candidate_at x c.args.above.last))) c.loop-i.i c.loop-i.next (omega (arith, long, c.loop-i-test.false)) c.loop-i.invariant.next
