use Rattle.std.specs.Prelude.{length}
use Rattle.tib_lazy_lists.specs.AskingOf.{asking_of}
use Rattle.tib_lazy_lists.specs.Asks.{IsAsking, StaysAsking, StaysGrammar}
use Rattle.tib_lazy_lists.specs.Demands.{AreLastListed, IsUnderway}
use Rattle.tib_lazy_lists.proofs.asking.Asking.round.Given as goal

abbrev pub invariant-loop-demand : goal.invariant-loop-demand
invariant-loop-demand g l = record {
  kept : IsAsking g.S.Semiring.product l.lists (asking_of l.self);
  listed : AreLastListed l.lists (asking_of l.self);
  underway : IsUnderway l.initial.lists (asking_of l.initial.self) l.fn.first l.lists (asking_of l.self) l.order.items;
  grammar : StaysGrammar l.initial.lists l.lists;
  same : StaysAsking (asking_of l.initial.self) (asking_of l.self);
}

abbrev pub decreases-loop-demand : goal.decreases-loop-demand
decreases-loop-demand g l = length l.order.items
