use Rattle.std.proofs.Common.{◌≡◌, false}
use Rattle.tib_hunt_tests.proofs.turn.append_all.Given as goal

abbrev pub invariant-loop-n : goal.invariant-loop-n
invariant-loop-n g l = (l.pass.lock ≡ l.lock) × (l.pass.inside ≡ false)
