use Rattle.std.proofs.Common.{◌≡◌, ℕ, ◌+◌, ◌<◌, ◌≤◌, length, false, get_or, if◌then◌else◌}
use Rattle.tib_strings.specs.CutLists.{stands}
use Rattle.tib_strings.proofs.bounds.pass_word.Given as goal

abbrev pub invariant-loop-place : goal.invariant-loop-place
invariant-loop-place l = record {
  long : length l.row.items ≡ length l.initial.row.items;
  low : (p : ℕ) → p < l.place → get_or l.row.items p false ≡ (if stands l.string (l.from + p) l.word then get_or l.initial.row.items (p + 1) false else false);
  high : (p : ℕ) → l.place ≤ p → get_or l.row.items p false ≡ get_or l.initial.row.items p false;
}
