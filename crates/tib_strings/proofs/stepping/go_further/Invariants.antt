use Rattle.std.proofs.Common.{◌≡◌, ℕ, ◌≤◌, List, length}
use Rattle.tib_strings.specs.Stacks.{back, behind}
use Rattle.tib_strings.specs.Bounds.{AreBounds}
use Rattle.tib_strings.proofs.stepping.go_further.Given as goal

abbrev pub invariant-loop-place : goal.invariant-loop-place
invariant-loop-place l = record {
  begun : length l.places.items ≤ length l.tokens;
  same : (string : List ℕ) (i j : ℕ) → AreBounds string l.tokens j l.bounds → behind string l.tokens i j (back l.initial.places.items) ≡ behind string l.tokens i j (back l.places.items);
}

abbrev pub decreases-loop-place : goal.decreases-loop-place
decreases-loop-place l = length l.places.items
