use Rattle.std.proofs.Common.{take}
use Rattle.tib_determinize.specs.Holders.{AreHolders}
use Rattle.tib_determinize.proofs.holders.add_vectors.Given as goal

abbrev pub invariant-loop-position : goal.invariant-loop-position
invariant-loop-position l = AreHolders l.marks (take l.position l.order) l.lists.items
