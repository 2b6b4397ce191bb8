use Rattle.std.proofs.Common.{◌≡◌, ◌<◌, ℕ, List, length, take}
use Rattle.tib_key_edges.specs.Ends.{key_at}
use Rattle.tib_image.specs.Image.{IsImageEdge}
use Rattle.tib_key_edges.specs.Listing.{IsListed, IsWithinBudget}
use Rattle.tib_image.proofs.operation.Image.list_edges.Given as goal

abbrev pub invariant-loop-rule_position : goal.invariant-loop-rule_position
invariant-loop-rule_position g l = record {
  within : IsWithinBudget l.listing;
  position : l.listing.position ≡ l.position;
  budget : l.listing.budget ≡ l.budget;
  listed : (order : List (ℕ × ℕ)) → l.position < length order → key_at order l.position ≡ l.key →
      IsListed (IsImageEdge l.self.transducer.now.rules l.self.tree.now l.key) order (take l.rule_position-index l.rule_position-items) l.listing;
}
