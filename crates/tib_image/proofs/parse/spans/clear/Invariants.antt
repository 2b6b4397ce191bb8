use Rattle.std.proofs.Common.{◌≡◌, ◌<◌, ℕ, length, get_or}
use Rattle.tib_image.proofs.parse.spans.clear.Given as goal

abbrev pub invariant-loop-place : goal.invariant-loop-place
invariant-loop-place l = record {
  long : length l.spans.items ≡ length l.initial.spans.items;
  empty : (v : ℕ) → v < l.place → get_or l.spans.items v (0, 0, 0) ≡ (0, 0, 0);
}
