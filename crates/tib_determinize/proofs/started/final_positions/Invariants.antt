use Rattle.std.proofs.Common.{◌≡◌, ◌++◌, drop}
use Rattle.tib_determinize.specs.Started.{finals}
use Rattle.tib_determinize.proofs.started.final_positions.Given as goal

abbrev pub invariant-loop-position : goal.invariant-loop-position
invariant-loop-position l = l.found.items ++ finals l.position (drop l.position l.order) ≡ finals 0 l.order
