use Rattle.std.proofs.Common.{◌≡◌, map, drop, length, ◌==◌}
use Rattle.std.specs.List.{list_any}
use Rattle.tib_command.proofs.values.has_empty.Given as goal

abbrev pub invariant-loop-word : goal.invariant-loop-word
invariant-loop-word l = list_any (λ w. length w == 0) (map (λ w. w.now) l.words) ≡ list_any (λ w. length w == 0) (map (λ w. w.now) (drop l.word-index l.words))
