use Rattle.std.proofs.Common.{List, take, ◌≡◌, ◌≤◌, ◌+◌, length}
use Rattle.tib_tree.specs.Grows.{Grows}
use Rattle.tib_tree.specs.Written.{Item}
use Rattle.tib_lex.specs.Lists.{Along}
use Rattle.tib_grammar.specs.Items.{pairs_of}
use Rattle.tib_grammar_file.specs.Added.{AddsSymbols}
use Rattle.tib_grammar_file.specs.Raw.{IsRaw}
use Rattle.tib_grammar_file.specs.Value.{IsNode}
use Rattle.tib_grammar_file.proofs.resolve.resolve_items.Given as goal

abbrev pub invariant-loop-item : goal.invariant-loop-item
invariant-loop-item l = record {
  side : (is : List Item) → Along (IsRaw l.tables.texts.now) (take l.item-index l.items) is → Along (IsNode l.tables.names.now l.labels) (pairs_of l.side.items) is;
  long : length l.side.items ≡ l.item-index;
  added : AddsSymbols l.fn.labels (pairs_of l.side.items) l.labels;
  few : length l.labels ≤ length l.fn.labels + l.item-index;
  grows : Grows l.fn.labels l.labels;
}
