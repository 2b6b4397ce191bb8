use Rattle.std.proofs.Common.{◌≡◌, take}
use Rattle.tib_operations.specs.KBest.{costed_lines}
use Rattle.tib_texts.proofs.kbest.list_text.Given as goal

abbrev pub invariant-loop-place : goal.invariant-loop-place
invariant-loop-place g l = l.text.bytes ≡ costed_lines g.S.Semiring.SCALE l.labels (take l.place l.list)
