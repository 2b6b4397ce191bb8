use Rattle.std.proofs.Common.{◌≤◌, ◌+◌, length, take, map}
use Rattle.tib_lex.specs.Line.{words_at}
use Rattle.tib_lex.specs.Lists.{Along}
use Rattle.tib_tree.specs.Grows.{Grows, AddsAll}
use Rattle.tib_strings.specs.Listed.{item_of, texts_of, IsNamed}
use Rattle.tib_strings.proofs.list.intern_words.Given as goal

abbrev pub invariant-loop-token : goal.invariant-loop-token
invariant-loop-token l = record {
  words : Along (IsNamed l.labels) l.words.items (map item_of (words_at l.line (take l.token-index l.tokens)));
  adds : AddsAll l.fn.labels (texts_of (map item_of (words_at l.line (take l.token-index l.tokens)))) l.labels;
  grows : Grows l.fn.labels l.labels;
  few : length l.labels ≤ length l.fn.labels + l.token-index;
}
