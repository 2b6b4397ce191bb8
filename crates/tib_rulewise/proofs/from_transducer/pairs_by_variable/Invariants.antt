use Rattle.std.proofs.Common.{◌≡◌, ◌≤◌, length, take}
use Rattle.tib_grammar.specs.Items.{holes_in}
use Rattle.tib_rulewise.specs.Paired.{AreListed}
use Rattle.tib_rulewise.proofs.from_transducer.pairs_by_variable.Given as goal

abbrev pub invariant-loop-item : goal.invariant-loop-item
invariant-loop-item l = record {
  low : l.place ≤ l.item-index;
  long : length l.listed.items ≡ l.count;
  counted : l.place ≡ length (holes_in (take l.item-index l.items));
  listed : AreListed (holes_in l.items) l.place l.listed.items;
}
