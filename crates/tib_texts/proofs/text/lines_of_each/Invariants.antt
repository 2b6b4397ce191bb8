use Rattle.std.proofs.Common.{◌≡◌, take}
use Rattle.tib_operations.specs.Text.{weighed_lines}
use Rattle.tib_texts.proofs.text.lines_of_each.Given as goal

abbrev pub invariant-loop-i : goal.invariant-loop-i
invariant-loop-i g l = l.text.bytes ≡ weighed_lines g.S.Semiring.SCALE l.labels (take l.i l.trees) (take l.i l.costs)
