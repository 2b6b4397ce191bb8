use Rattle.std.proofs.Common.{take, ◌≡◌}
use Rattle.tib_normal.specs.Arranging.{states_of}
use Rattle.tib_normal.proofs.rows.states_in.Given as goal

abbrev pub invariant-loop-row : goal.invariant-loop-row
invariant-loop-row l = l.states.items ≡ states_of (take l.row-index l.rows)
