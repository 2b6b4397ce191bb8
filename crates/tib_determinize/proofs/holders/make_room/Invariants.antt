use Rattle.std.proofs.Common.{◌+◌, ◌-◌, length}
use Rattle.tib_determinize.specs.Holders.{HoldSame}
use Rattle.tib_determinize.proofs.holders.make_room.Given as goal

abbrev pub invariant-loop-alloc : goal.invariant-loop-alloc
invariant-loop-alloc l = HoldSame l.initial.lists.items l.lists.items

abbrev pub decreases-loop-alloc : goal.decreases-loop-alloc
decreases-loop-alloc l = (l.state + 1) - length l.lists.items
