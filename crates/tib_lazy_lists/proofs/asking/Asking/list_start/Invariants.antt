use Rattle.std.specs.Prelude.{length}
use Rattle.tib_lazy_lists.specs.AskingOf.{asking_of}
use Rattle.tib_lazy_lists.specs.Asks.{IsAsking, StaysAsking, StaysGrammar}
use Rattle.tib_lazy_lists.specs.Demands.{rounds_left, AreLastListed, IsWithin}
use Rattle.tib_lazy_lists.proofs.asking.Asking.list_start.Given as goal

abbrev pub invariant-loop-first : goal.invariant-loop-first
invariant-loop-first g l = record {
  kept : IsAsking g.S.Semiring.product l.lists (asking_of l.self);
  listed : AreLastListed l.lists (asking_of l.self);
  within : IsWithin (length l.initial.lists.lists) l.lists (asking_of l.self);
  grammar : StaysGrammar l.initial.lists l.lists;
  same : StaysAsking (asking_of l.initial.self) (asking_of l.self);
}

abbrev pub decreases-loop-first : goal.decreases-loop-first
decreases-loop-first g l = rounds_left l.lists (asking_of l.self)
