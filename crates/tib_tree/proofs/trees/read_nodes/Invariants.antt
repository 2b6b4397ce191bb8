use Rattle.std.proofs.Common.{◌≡◌, ◌+◌, ◌≤◌, length, drop, map}
use Rattle.tib_tree.specs.Grows.{Grows, AddsAll}
use Rattle.tib_tree.specs.Nodes.{AreNodes}
use Rattle.tib_tree.specs.Pairs.{pairs_of}
use Rattle.tib_tree.specs.Shape.{items_back}
use Rattle.tib_tree.specs.Shaped.{blank, blanks_back}
use Rattle.tib_tree.proofs.trees.read_nodes.Given as goal

abbrev pub invariant-loop-i : goal.invariant-loop-i
invariant-loop-i l = record {
  within : l.i ≤ length l.places;
  nodes : AreNodes l.labels (pairs_of l.nodes.items) (items_back l.line (drop l.i l.places));
  shape : map blank l.nodes.items ≡ blanks_back (drop l.i l.places);
  added : AddsAll l.fn.labels (map (λ i. i.text) (items_back l.line (drop l.i l.places))) l.labels;
  table : length l.labels + l.i ≤ length l.fn.labels + length l.places;
  grows : Grows l.fn.labels l.labels;
}

abbrev pub decreases-loop-i : goal.decreases-loop-i
decreases-loop-i l = l.i
