use Rattle.std.proofs.Common.{length, take, ◌+◌}
use Rattle.tib_normal.specs.PlaceNames.{AreTaken}
use Rattle.tib_normal.proofs.place_names.taken_lengths.Given as goal

abbrev pub invariant-loop-state : goal.invariant-loop-state
invariant-loop-state l = AreTaken (take l.state l.names) (length l.names + 1) l.taken.items
