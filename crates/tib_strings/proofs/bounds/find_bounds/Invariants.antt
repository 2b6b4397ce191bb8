use Rattle.std.proofs.Common.{◌≡◌, ℕ, ◌≤◌, ◌<◌, length, drop}
use Rattle.tib_strings.specs.Bounds.{IsRow, IsBound}
use Rattle.tib_strings.proofs.bounds.find_bounds.Given as goal

abbrev pub invariant-loop-position : goal.invariant-loop-position
invariant-loop-position l = record {
  inside : l.position ≤ length l.tokens;
  long : length l.bounds.items ≡ length l.tokens;
  row : IsRow l.string (drop l.position l.tokens) l.from l.to l.row.items;
  bounded : (n : ℕ) → l.position ≤ n → n < length l.tokens → IsBound l.string l.tokens l.to l.bounds.items n;
}

abbrev pub decreases-loop-position : goal.decreases-loop-position
decreases-loop-position l = l.position
