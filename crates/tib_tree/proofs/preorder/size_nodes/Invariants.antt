use Rattle.std.proofs.Common.{◌≤◌, length}
use Rattle.tib_tree.proofs.Sizing.{Sized}
use Rattle.tib_tree.proofs.preorder.size_nodes.Given as goal

abbrev pub invariant-loop-i : goal.invariant-loop-i
invariant-loop-i l = record {
  within : l.i ≤ length l.items;
  sized : Sized l.items l.i l.starts.items l.back.items;
}

abbrev pub decreases-loop-i : goal.decreases-loop-i
decreases-loop-i l = l.i
