use Rattle.std.proofs.Common.{◌≡◌, ◌≤◌, replicate, None}
use Rattle.tib_match.proofs.plenty.nothing.Given as goal

abbrev pub invariant-loop-state : goal.invariant-loop-state
invariant-loop-state l = record {
  within : l._state ≤ l.states;
  column : l.column.items ≡ replicate l._state None;
}
