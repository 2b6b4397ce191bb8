use Rattle.std.proofs.Common.{◌++◌, ℕ, List, map, take}
use Rattle.tib_lex.specs.Lists.{Has}
use Rattle.tib_apply.specs.Backward.{IsBackwardEdge}
use Rattle.tib_apply.specs.Listing.{IsWithinBudget, IsAlike, IsListed}
use Rattle.tib_apply.proofs.backward.Backward.add_move.Given as goal

abbrev pub invariant-loop-one : goal.invariant-loop-one
invariant-loop-one g l = record {
  within : IsWithinBudget l.list;
  alike : IsAlike l.initial.list l.list;
  listed : (tried : List (ℕ × List ℕ)) → ((ss : List ℕ) → Has tried (l.position, ss) → ⊥) →
      IsListed (IsBackwardEdge g.S.Semiring.product l.self.transducer.now.rules l.self.grammar.now.rules l.fn.key) l.fn.key tried l.initial.list →
      IsListed (IsBackwardEdge g.S.Semiring.product l.self.transducer.now.rules l.self.grammar.now.rules l.fn.key) l.fn.key (tried ++ map (λ m. (l.position, m.0)) (take l.one-index l.one-items)) l.list;
}
