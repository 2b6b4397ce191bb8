use Rattle.std.proofs.Common.{◌≡◌, ℕ, ◌≤◌, ◌-◌, length}
use Rattle.tib_strings.specs.Stacks.{back, to_come}
use Rattle.tib_strings.specs.Bounds.{AreBounds}
use Rattle.tib_strings.proofs.stepping.descend.Given as goal

abbrev pub invariant-loop-places : goal.invariant-loop-places
invariant-loop-places l = record {
  begun : length l.places.items ≤ length l.tokens;
  same : (j : ℕ) → AreBounds l.string l.tokens j l.bounds → to_come l.string l.tokens l.from j (back l.initial.places.items) ≡ to_come l.string l.tokens l.from j (back l.places.items);
}

abbrev pub decreases-loop-places : goal.decreases-loop-places
decreases-loop-places l = length l.tokens - length l.places.items
