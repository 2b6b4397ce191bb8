use Rattle.std.proofs.Common.{◌≡◌, ℕ, ◌<◌, ◌≤◌, length, true, false, get_or}
use Rattle.tib_strings.proofs.bounds.pass_pair.Given as goal

abbrev pub invariant-loop-place : goal.invariant-loop-place
invariant-loop-place l = record {
  long : length l.row.items ≡ length l.initial.row.items;
  low : (p : ℕ) → p < l.place → get_or l.row.items p false ≡ true;
  high : (p : ℕ) → l.place ≤ p → get_or l.row.items p false ≡ get_or l.initial.row.items p false;
}
