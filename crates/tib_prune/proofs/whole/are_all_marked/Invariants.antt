use Rattle.std.proofs.Common.{ℕ, ◌<◌}
use Rattle.tib_inside.specs.Reaching.{IsMarked}
use Rattle.tib_prune.proofs.whole.are_all_marked.Given as goal

abbrev pub invariant-loop-mark : goal.invariant-loop-mark
invariant-loop-mark l = (q : ℕ) → q < l.mark-index → IsMarked l.marks q
