use Rattle.std.proofs.Common.{◌≡◌, take}
use Rattle.tib_operations.specs.Text.{inside_lines}
use Rattle.tib_texts.proofs.inside.inside_text.Given as goal

abbrev pub invariant-loop-state : goal.invariant-loop-state
invariant-loop-state g l = l.text.bytes ≡ inside_lines g.S.Semiring.SCALE (take l.state l.names) (take l.state l.costs)
