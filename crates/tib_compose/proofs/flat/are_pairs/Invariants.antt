use Rattle.std.proofs.Common.{◌≤◌, length}
use Rattle.tib_compose.specs.FlatSides.{ArePairsFrom}
use Rattle.tib_compose.proofs.flat.are_pairs.Given as goal

abbrev pub invariant-loop-i : goal.invariant-loop-i
invariant-loop-i l = record {
  within : l.i ≤ length l.items;
  pairs : ArePairsFrom l.i l.items;
}

abbrev pub decreases-loop-i : goal.decreases-loop-i
decreases-loop-i l = l.i
