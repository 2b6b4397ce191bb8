use Rattle.std.proofs.Common.{◌≤◌, ◌-◌, length}
use Rattle.tib_tree.proofs.ByNodes.{SoFar}
use Rattle.tib_tree.proofs.comparing.compare_lists.Given as goal

abbrev pub invariant-loop-i : goal.invariant-loop-i
invariant-loop-i l = (l.i ≤ length l.xs) × (l.i ≤ length l.ys) × SoFar l.labels l.i l.xs l.ys

abbrev pub decreases-loop-i : goal.decreases-loop-i
decreases-loop-i l = length l.xs - l.i
