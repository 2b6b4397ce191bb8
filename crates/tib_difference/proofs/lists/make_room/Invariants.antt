use Rattle.std.proofs.Common.{◌+◌, ◌-◌, length}
use Rattle.tib_difference.specs.Held.{HoldSame}
use Rattle.tib_difference.proofs.lists.make_room.Given as goal

abbrev pub invariant-loop-alloc : goal.invariant-loop-alloc
invariant-loop-alloc g l = HoldSame l.initial.lists.items l.lists.items

abbrev pub decreases-loop-alloc : goal.decreases-loop-alloc
decreases-loop-alloc g l = (l.number + 1) - length l.lists.items
