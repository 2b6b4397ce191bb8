use Rattle.std.proofs.Common.{◌≡◌, ℕ, List, ◌++◌, map, take}
use Rattle.tib_lex.specs.Lists.{Has}
use Rattle.tib_grammar.specs.declared.Rule.{Rule}
use Rattle.tib_intersect.specs.PairListing.{IsWithinBudget, IsListed, Stands}
use Rattle.tib_intersect.proofs.listing.PairListing.add_matches.Given as goal

abbrev pub invariant-loop-position : goal.invariant-loop-position
invariant-loop-position g l = record {
  within : IsWithinBudget l.self;
  position : l.self.position ≡ l.initial.self.position;
  budget : l.self.budget ≡ l.initial.self.budget;
  listed : (ones : List (Rule ℕ)) (order : List (ℕ × ℕ)) (i : ℕ) (tried : List (ℕ × ℕ)) → Stands ones l.others order i l.initial.self.position l.one l.positions → ((j : ℕ) → Has tried (i, j) → ⊥) →
      IsListed g.S.Semiring.product ones l.others order l.initial.self.position tried l.initial.self →
      IsListed g.S.Semiring.product ones l.others order l.initial.self.position (tried ++ map (λ j. (i, j)) (take l.position-index l.positions)) l.self;
}
