use Rattle.tib_lazy_lists.specs.AskingOf.{asking_of}
use Rattle.tib_lazy_lists.specs.Asks.{IsAsking, StaysAsking, StaysGrammar, turns_left}
use Rattle.tib_lazy_lists.proofs.asking.Asking.ask_start.Given as goal

abbrev pub invariant-loop-question : goal.invariant-loop-question
invariant-loop-question g l = record {
  kept : IsAsking g.S.Semiring.product l.lists (asking_of l.self);
  grammar : StaysGrammar l.initial.lists l.lists;
  same : StaysAsking (asking_of l.initial.self) (asking_of l.self);
}

abbrev pub decreases-loop-question : goal.decreases-loop-question
decreases-loop-question g l = turns_left l.lists (asking_of l.self)
