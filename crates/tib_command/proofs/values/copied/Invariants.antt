use Rattle.std.proofs.Common.{◌≡◌, length, map, take}
use Rattle.std.specs.String.{string_bytes}
use Rattle.tib_command.proofs.values.copied.Given as goal

abbrev pub invariant-loop-word : goal.invariant-loop-word
invariant-loop-word l = record {
  texts : map (λ s. string_bytes s) l.copies.items ≡ map (λ w. w.now) (take l.word-index l.words);
  many : length l.copies.items ≡ l.word-index;
}
