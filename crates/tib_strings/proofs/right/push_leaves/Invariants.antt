use Rattle.std.proofs.Common.{◌≤◌, ℕ, List, length}
use Rattle.std.specs.List.{All}
use Rattle.tib_lex.specs.Line.{Lies}
use Rattle.tib_tree.specs.Shape.{PlaceLies}
use Rattle.tib_strings.specs.RuleValue.{IsLeaf}
use Rattle.tib_strings.proofs.Places.{IsListed}
use Rattle.tib_strings.proofs.right.push_leaves.Given as goal

abbrev pub invariant-loop-i : goal.invariant-loop-i
invariant-loop-i l = record {
  within : l.i ≤ length l.tokens;
  listed : (line : List ℕ) → IsListed line l.tokens l.places.items l.i;
  lie : (long : ℕ) → All (Lies long) l.tokens → All (PlaceLies long) l.places.items;
  leaves : All IsLeaf l.places.items;
}

abbrev pub decreases-loop-i : goal.decreases-loop-i
decreases-loop-i l = l.i
