use Rattle.std.proofs.Common.{◌≤◌, ◌-◌, length, drop}
use Rattle.tib_tree.proofs.Printing.{SoFar}
use Rattle.tib_tree.proofs.print.print_nodes.Given as goal

abbrev pub invariant-loop-i : goal.invariant-loop-i
invariant-loop-i g l = record {
  within : l.i ≤ length l.nodes;
  so_far : SoFar l.labels (g.W.Sink.seen l.fn.out) (g.W.Sink.seen l.out) l.above (drop l.i l.nodes) l.nodes;
}

abbrev pub decreases-loop-i : goal.decreases-loop-i
decreases-loop-i g l = length l.nodes - l.i
