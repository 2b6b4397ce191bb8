use Rattle.std.proofs.Common.{◌≡◌, take}
use Rattle.tib_key_edges.specs.Listing.{IsWithinBudget}
use Rattle.tib_image.specs.ParseListing.{IsListed, edges_at_all}
use Rattle.tib_image.proofs.parse.operation.Parse.list_edges.Given as goal

abbrev pub invariant-loop-place : goal.invariant-loop-place
invariant-loop-place g l = record {
  within : IsWithinBudget l.listing;
  position : l.listing.position ≡ l.position;
  budget : l.listing.budget ≡ l.budget;
  listed : IsListed l.key (edges_at_all l.self.transducer.now.rules l.self.string.now l.key (take l.place-index l.place-items)) l.listing;
}
