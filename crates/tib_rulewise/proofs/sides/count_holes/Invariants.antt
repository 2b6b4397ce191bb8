use Rattle.std.proofs.Common.{◌≡◌, ◌≤◌, ◌+◌, length, drop}
use Rattle.tib_grammar.specs.Items.{holes_in}
use Rattle.tib_rulewise.proofs.sides.count_holes.Given as goal

abbrev pub invariant-loop-item : goal.invariant-loop-item
invariant-loop-item g l = record {
  low : l.count ≤ l.item-index;
  counted : l.count + length (holes_in (drop l.item-index l.items)) ≡ length (holes_in l.items);
}
