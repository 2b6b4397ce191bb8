use Rattle.std.proofs.Common.{◌≡◌, ◌≤◌, ◌++◌, drop}
use Rattle.tib_rulewise.specs.Placed.{placed_items}
use Rattle.tib_rulewise.specs.Inverse.{variable_at}
use Rattle.tib_rulewise.proofs.from_transducer.read_items.Given as goal

abbrev pub invariant-loop-item : goal.invariant-loop-item
invariant-loop-item l = record {
  low : l.next ≤ l.item-index;
  done : l.read.items ++ placed_items variable_at l.next (drop l.item-index l.items) ≡ placed_items variable_at 0 l.items;
}
