use Rattle.std.proofs.Common.{◌≡◌, length}
use Rattle.tib_strings.specs.Remaining.{IsSearch, remaining}
use Rattle.tib_key_edges.specs.Listing.{IsWithinBudget}
use Rattle.tib_image.specs.ParseListing.{AreDone}
use Rattle.tib_image.proofs.parse.operation.add_cuts.Given as goal

abbrev pub invariant-loop-cuts : goal.invariant-loop-cuts
invariant-loop-cuts l = record {
  within : IsWithinBudget l.listing;
  search : IsSearch l.cuts;
  tokens : l.cuts.tokens.now ≡ l.rule.right;
  long : length l.spans.items ≡ length l.initial.spans.items;
  done : AreDone l.restrictions l.key l.rule (remaining l.initial.cuts) (remaining l.cuts) l.initial.listing l.listing;
}

abbrev pub decreases-loop-cuts : goal.decreases-loop-cuts
decreases-loop-cuts l = length (remaining l.cuts)
