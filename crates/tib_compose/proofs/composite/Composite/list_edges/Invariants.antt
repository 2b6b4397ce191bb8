use Rattle.std.proofs.Common.{◌≡◌, ◌<◌, ℕ, List, length, take, get_or}
use Rattle.tib_compose.specs.KeyEdges.{rule_edges}
use Rattle.tib_compose.specs.CompositionListing.{IsListing, IsWithinBudget}
use Rattle.tib_compose.specs.Searches.{all_of}
use Rattle.tib_compose.proofs.composite.Composite.list_edges.Given as goal

abbrev pub invariant-loop-rule_position : goal.invariant-loop-rule_position
invariant-loop-rule_position g l = record {
  within : IsWithinBudget l.listing;
  budget : l.listing.budget ≡ l.budget;
  listed : (order : List (ℕ × ℕ)) → l.position < length order → get_or order l.position (0, 0) ≡ l.key →
      IsListing order l.key (all_of (rule_edges g.S.Semiring.product l.self.first.now.rules l.self.second.now.rules l.key) (take l.rule_position-index l.rule_position-items)) l.listing;
}
