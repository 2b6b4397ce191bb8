use Rattle.std.specs.Prelude.{◌<◌, length}
use Rattle.tib_lazy_lists.specs.AskingOf.{asking_of}
use Rattle.tib_lazy_lists.specs.Asks.{IsAsking, StaysAsking, StaysGrammar, turns_left}
use Rattle.tib_lazy_lists.specs.Stacks.{AreBelow}
use Rattle.tib_lazy_lists.proofs.asking.Asking.ask.Given as goal

abbrev pub invariant-loop-question : goal.invariant-loop-question
invariant-loop-question g l = record {
  kept : IsAsking g.S.Semiring.product l.lists (asking_of l.self);
  stack : AreBelow (length (asking_of l.self).states) l.stack.items;
  grammar : StaysGrammar l.fn.lists l.lists;
  same : StaysAsking (asking_of l.fn.self) (asking_of l.self);
  fewer : turns_left l.lists (asking_of l.self) < turns_left l.fn.lists (asking_of l.fn.self);
}

abbrev pub decreases-loop-question : goal.decreases-loop-question
decreases-loop-question g l = turns_left l.lists (asking_of l.self)
