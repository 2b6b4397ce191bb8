use Rattle.std.specs.Prelude.{length}
use Rattle.tib_lazy_lists.specs.AskingOf.{asking_of}
use Rattle.tib_lazy_lists.specs.Stacks.{AreBelow}
use Rattle.tib_lazy_lists.proofs.asking.Asking.next_open.Given as goal

abbrev pub invariant-loop-question : goal.invariant-loop-question
invariant-loop-question g l = AreBelow (length (asking_of l.self).states) l.stack.items

abbrev pub decreases-loop-question : goal.decreases-loop-question
decreases-loop-question g l = length l.stack.items
