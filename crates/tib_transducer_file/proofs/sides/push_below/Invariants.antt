use Rattle.std.proofs.Common.{◌≤◌, ◌+◌, ◌-◌, length, drop}
use Rattle.std.specs.List.{flat_map}
use Rattle.tib_tree.specs.Grows.{Grows, AddsAll}
use Rattle.tib_tree.specs.Shape.{items_back}
use Rattle.tib_transducer_file.specs.Added.{on_left}
use Rattle.tib_transducer_file.proofs.SidesRead.{Pushing}
use Rattle.tib_transducer_file.proofs.sides.push_below.Given as goal

abbrev pub invariant-loop-i : goal.invariant-loop-i
invariant-loop-i l = record {
  pushing : Pushing l.labels l.line l.below l.fn.items.items l.items.items l.number l.i;
  texts : AddsAll l.fn.labels (flat_map on_left (items_back l.line (drop l.i l.below))) l.labels;
  grows : Grows l.fn.labels l.labels;
  few : length l.labels ≤ length l.fn.labels + (length l.below - l.i);
}

abbrev pub decreases-loop-i : goal.decreases-loop-i
decreases-loop-i l = l.i
