use Rattle.std.proofs.Common.{◌≤◌, ◌+◌, ◌-◌, length, drop, map}
use Rattle.std.specs.List.{flat_map}
use Rattle.indexmap.specs.IndexSet.{keys}
use Rattle.tib_tree.specs.Grows.{Grows, AddsAll}
use Rattle.tib_tree.specs.Shape.{items_back}
use Rattle.tib_transducer_file.specs.Added.{on_right}
use Rattle.tib_transducer_file.proofs.SidesRead.{Placing}
use Rattle.tib_transducer_file.proofs.sides.right_nodes.Given as goal

abbrev pub invariant-loop-i : goal.invariant-loop-i
invariant-loop-i g l = record {
  placing : Placing l.fn.names l.names l.labels (keys l.variables) l.line l.places (map g.R.RightReader.symbol_of l.nodes.items) l.i;
  texts : AddsAll l.fn.labels (flat_map on_right (items_back l.line (drop l.i l.places))) l.labels;
  names : Grows l.fn.names l.names;
  labels : Grows l.fn.labels l.labels;
  few_names : length l.names ≤ length l.fn.names + (length l.places - l.i);
  few_labels : length l.labels ≤ length l.fn.labels + (length l.places - l.i);
}

abbrev pub decreases-loop-i : goal.decreases-loop-i
decreases-loop-i g l = l.i
