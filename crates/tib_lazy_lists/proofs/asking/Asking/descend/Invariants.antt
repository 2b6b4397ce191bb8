use Rattle.std.specs.Prelude.{length}
use Rattle.tib_ranked_trees.specs.Held.{below_of, candidate_at}
use Rattle.tib_lazy_lists.specs.AskingOf.{asking_of}
use Rattle.tib_lazy_lists.specs.Stacks.{AreBelow, IsNextBelow, IsToAsk, way_left}
use Rattle.tib_lazy_lists.proofs.asking.Asking.descend.Given as goal

abbrev pub invariant-loop-below : goal.invariant-loop-below
invariant-loop-below g l = record {
  question : IsToAsk l.lists (asking_of l.self) l.question;
  below : IsNextBelow g.S.Semiring.product l.lists (asking_of l.self) l.question (length (below_of l.lists (candidate_at l.lists l.question.last))) l.below;
  stack : AreBelow (length (asking_of l.self).states) l.stack.items;
}

abbrev pub decreases-loop-below : goal.decreases-loop-below
decreases-loop-below g l = way_left l.lists l.below
