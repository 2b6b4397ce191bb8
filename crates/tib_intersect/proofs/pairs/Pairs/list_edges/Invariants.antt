use Rattle.std.proofs.Common.{◌≡◌, ◌<◌, ℕ, List, length, take}
use Rattle.tib_key_edges.specs.Ends.{key_at as pair_at}
use Rattle.tib_intersect.specs.PairListing.{IsWithinBudget}
use Rattle.tib_intersect.proofs.Matches.{AreListedFor, positions_of}
use Rattle.tib_intersect.proofs.pairs.Pairs.list_edges.Given as goal

abbrev pub invariant-loop-one : goal.invariant-loop-one
invariant-loop-one g l = record {
  within : IsWithinBudget l.listing;
  position : l.listing.position ≡ l.position;
  budget : l.listing.budget ≡ l.budget;
  listed : (order : List (ℕ × ℕ)) → l.position < length order → pair_at order l.position ≡ l.pair →
      AreListedFor g.S.Semiring.product l.self.left.now.rules l.self.right.now.rules order l.position (take l.one-index (positions_of l.pair.0 l.self.left.now.rules)) l.listing;
}
