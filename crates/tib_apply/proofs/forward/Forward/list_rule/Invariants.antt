use Rattle.std.proofs.Common.{◌≡◌, ◌<◌, ◌++◌, ℕ, List, length}
use Rattle.tib_lex.specs.Lists.{Has}
use Rattle.tib_apply.specs.KeyGrammars.{key_at}
use Rattle.tib_key_edges.specs.Listing.{IsListed, IsWithinBudget}
use Rattle.tib_apply.specs.TableEdges.{IsTableEdge}
use Rattle.tib_apply.proofs.ForwardEdges.{origins_of}
use Rattle.tib_apply.proofs.forward.Forward.list_rule.Given as goal

abbrev pub invariant-loop-found : goal.invariant-loop-found
invariant-loop-found g l = record {
  within : IsWithinBudget l.listing;
  position : l.listing.position ≡ l.initial.listing.position;
  budget : l.listing.budget ≡ l.initial.listing.budget;
  listed : (order : List (ℕ × ℕ × ℕ)) → l.initial.listing.position < length order → key_at order l.initial.listing.position ≡ l.key → (tried : List (ℕ × List ℕ)) →
      ((o : ℕ × List ℕ) → Has tried o → o.0 ≡ l.position → ⊥) →
      IsListed (IsTableEdge g.S.Semiring.product l.self.grammar.now.rules l.self.transducer.now.rules l.self.runs l.key) order tried l.initial.listing →
      IsListed (IsTableEdge g.S.Semiring.product l.self.grammar.now.rules l.self.transducer.now.rules l.self.runs l.key) order (tried ++ origins_of l.position l.found-index l.found-items) l.listing;
}
