use Rattle.std.proofs.Common.{◌≡◌, ◌≤◌, ◌++◌, drop}
use Rattle.tib_rulewise.specs.Placed.{placed_items}
use Rattle.tib_rulewise.specs.Derivations.{read_from}
use Rattle.tib_rulewise.proofs.from_grammar.output_items.Given as goal

abbrev pub invariant-loop-item : goal.invariant-loop-item
invariant-loop-item l = record {
  low : l.next ≤ l.item-index;
  done : l.output.items ++ placed_items read_from l.next (drop l.item-index l.items) ≡ placed_items read_from 0 l.items;
}
