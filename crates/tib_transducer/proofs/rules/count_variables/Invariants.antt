use Rattle.std.proofs.Common.{◌≡◌, ◌≤◌, ◌+◌, length, drop}
use Rattle.tib_grammar.specs.Items.{holes_in}
use Rattle.tib_transducer.proofs.rules.count_variables.Given as goal

abbrev pub invariant-loop-item : goal.invariant-loop-item
invariant-loop-item l = record {
  low : l.count ≤ l.item-index;
  counted : l.count + length (holes_in (drop l.item-index l.items)) ≡ length (holes_in l.items);
}
