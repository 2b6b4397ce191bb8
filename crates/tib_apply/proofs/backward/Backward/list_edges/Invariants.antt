use Rattle.std.proofs.Common.{◌≡◌, take}
use Rattle.tib_transducer.specs.Moves.{moves_of}
use Rattle.tib_apply.specs.Backward.{IsBackwardEdge}
use Rattle.tib_apply.specs.Listing.{IsWithinBudget, AreListedFor}
use Rattle.tib_apply.proofs.backward.Backward.list_edges.Given as goal

abbrev pub invariant-loop-place : goal.invariant-loop-place
invariant-loop-place g l = record {
  within : IsWithinBudget l.list;
  position : l.list.position ≡ l.position;
  budget : l.list.budget ≡ l.budget;
  listed : AreListedFor (IsBackwardEdge g.S.Semiring.product l.self.transducer.now.rules l.self.grammar.now.rules l.fn.key) l.fn.key (take l.place-index (moves_of l.fn.key.0 l.self.transducer.now.rules)) l.list;
}
