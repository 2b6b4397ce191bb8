use Rattle.std.proofs.Common.{take}
use Rattle.tib_difference.specs.Held.{AreHolders}
use Rattle.tib_difference.proofs.holders.add_positions.Given as goal

abbrev pub invariant-loop-position : goal.invariant-loop-position
invariant-loop-position l = AreHolders (take l.position l.order) l.lists.items
