use Rattle.std.proofs.Common.{◌≡◌, take, length}
use Rattle.tib_lex.specs.Lists.{Has}
use Rattle.tib_grammar.specs.Items.{holes_in}
use Rattle.tib_inside.specs.Reaching.{Marks}
use Rattle.tib_inside.proofs.reaching.mark_items.Given as goal

abbrev pub invariant-loop-item : goal.invariant-loop-item
invariant-loop-item l = record {
  long : length l.kept.items ≡ length l.initial.kept.items;
  marks : Marks (Has (holes_in (take l.item-index l.items))) l.initial.kept.items l.kept.items l.initial.stack.items l.stack.items;
}
