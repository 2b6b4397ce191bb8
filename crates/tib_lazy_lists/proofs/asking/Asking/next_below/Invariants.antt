use Rattle.std.specs.Prelude.{length}
use Rattle.tib_lazy_lists.specs.AskingOf.{asking_of}
use Rattle.tib_lazy_lists.specs.Stacks.{AreBelow, IsNextBelow}
use Rattle.tib_lazy_lists.proofs.asking.Asking.next_below.Given as goal

abbrev pub invariant-loop-i : goal.invariant-loop-i
invariant-loop-i g l = record {
  next : IsNextBelow g.S.Semiring.product l.lists (asking_of l.self) l.above l.i l.next;
  stack : AreBelow (length (asking_of l.self).states) l.stack.items;
}
