use Rattle.std.proofs.Common.{◌≤◌, ◌-◌, length}
use Rattle.tib_canon.proofs.ByBytes.{SoFar}
use Rattle.tib_canon.proofs.lines.compare_texts.Given as goal

abbrev pub invariant-loop-place : goal.invariant-loop-place
invariant-loop-place l = (l.place ≤ length l.one) × (l.place ≤ length l.two) × SoFar l.place l.one l.two

abbrev pub decreases-loop-place : goal.decreases-loop-place
decreases-loop-place l = length l.one - l.place
