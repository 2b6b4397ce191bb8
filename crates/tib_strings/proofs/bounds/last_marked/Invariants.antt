use Rattle.std.proofs.Common.{◌≡◌, ℕ, ◌≤◌, length, false, get_or}
use Rattle.tib_strings.proofs.bounds.last_marked.Given as goal

abbrev pub invariant-loop-place : goal.invariant-loop-place
invariant-loop-place l = record {
  inside : l.place ≤ length l.row;
  high : (p : ℕ) → l.place ≤ p → get_or l.row p false ≡ false;
}

abbrev pub decreases-loop-place : goal.decreases-loop-place
decreases-loop-place l = l.place
