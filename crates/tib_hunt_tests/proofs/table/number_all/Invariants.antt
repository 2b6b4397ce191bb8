use Rattle.std.proofs.Common.{◌≡◌}
use Rattle.tib_hunt_tests.proofs.table.number_all.Given as goal

abbrev pub invariant-loop-at : goal.invariant-loop-at
invariant-loop-at g l = l.seats.table ≡ l.table
