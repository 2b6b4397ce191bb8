use Rattle.std.proofs.Common.{◌≡◌, ◌++◌, ℕ, List, length}
use Rattle.tib_transducer.specs.Rules.{transducer_rule}
use Rattle.tib_transducer.specs.declared.TransducerRule.{TransducerRule}
use Rattle.tib_compose.specs.KeyEdges.{rule_edges}
use Rattle.tib_compose.specs.CompositionListing.{IsListing, IsWithinBudget}
use Rattle.tib_compose.specs.Pending.{AreNodesBelow}
use Rattle.tib_compose.specs.Searches.{AreTurnsAt}
use Rattle.tib_compose.specs.Walk.{AreReady, IsUnderway}
use Rattle.tib_compose.proofs.composite.Composite.search_rule.Given as goal

abbrev pub invariant-loop : goal.invariant-loop
invariant-loop g l = record {
  within : IsWithinBudget l.listing;
  budget : l.listing.budget ≡ l.fn.listing.budget;
  turns : AreTurnsAt l.source.items.now l.search.turns.items;
  nodes : AreNodesBelow (length l.source.items.now) l.search.branch.pending.tasks.items;
  underway :
      AreReady g.S.Semiring.product l.self.second.now.rules → (order : List (ℕ × ℕ)) (es : List (TransducerRule (ℕ × ℕ))) → IsListing order l.fn.key es l.fn.listing →
      IsUnderway g.S.Semiring.product l.self.second.now.rules l.source l.rule.left order l.fn.key
      (es ++ rule_edges g.S.Semiring.product l.self.first.now.rules l.self.second.now.rules l.fn.key l.position) l.search l.listing;
}
