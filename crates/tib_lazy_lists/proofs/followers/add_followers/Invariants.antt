use Rattle.tib_ranked_trees.specs.Held.{candidate_at}
use Rattle.tib_lazy_lists.specs.Offers.{AreFollowed}
use Rattle.tib_lazy_lists.proofs.followers.add_followers.Given as goal

abbrev pub invariant-loop-i : goal.invariant-loop-i
invariant-loop-i g l = AreFollowed g.S.Semiring.product l.initial.lists (candidate_at l.initial.lists l.last) l.initial.i l.i l.initial.heap.items l.lists l.heap.items
