use Rattle.std.proofs.Common.{◌≤◌, ◌+◌, ◌-◌, length, drop}
use Rattle.tib_tree.specs.Grows.{Grows}
use Rattle.tib_tree.specs.Shape.{items_back}
use Rattle.tib_grammar_file.specs.Raw.{AddsNodes}
use Rattle.tib_grammar_file.proofs.raw.read_side.Given as goal

abbrev pub invariant-loop-i : goal.invariant-loop-i
invariant-loop-i l = record {
  within : l.i ≤ length l.places;
  nodes : AddsNodes l.texts l.fn.nodes.items l.nodes.items (items_back l.line (drop l.i l.places));
  grows : Grows l.fn.texts l.texts;
  few : length l.texts ≤ length l.fn.texts + (length l.places - l.i);
}

abbrev pub decreases-loop-i : goal.decreases-loop-i
decreases-loop-i l = l.i
