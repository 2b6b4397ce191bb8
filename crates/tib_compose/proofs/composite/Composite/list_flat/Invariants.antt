use Rattle.std.proofs.Common.{◌≡◌, ◌++◌, [], ℕ, List, take}
use Rattle.tib_transducer.specs.declared.TransducerRule.{TransducerRule}
use Rattle.tib_compose.specs.FlatSides.{flat_results}
use Rattle.tib_compose.specs.CompositionListing.{IsListing, IsWithinBudget}
use Rattle.tib_compose.specs.Searches.{all_of}
use Rattle.tib_compose.specs.Walk.{AreReady, result_edges}
use Rattle.tib_compose.proofs.composite.Composite.list_flat.Given as goal

abbrev pub invariant-loop-reader : goal.invariant-loop-reader
invariant-loop-reader g l = record {
  within : IsWithinBudget l.listing;
  budget : l.listing.budget ≡ l.fn.listing.budget;
  listed :
      AreReady g.S.Semiring.product l.self.second.now.rules → (order : List (ℕ × ℕ)) (es : List (TransducerRule (ℕ × ℕ))) → IsListing order l.fn.key es l.fn.listing →
      IsListing order l.fn.key (es ++ result_edges l.fn.key l.rule.left (all_of (flat_results g.S.Semiring.product l.self.second.now.rules l.rule l.items l.rank) (take l.reader-index l.reader-items))) l.listing;
}
