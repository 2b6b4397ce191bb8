-- Edges that are listed by their origins, of which some remain.
use Rattle.std.specs.Prelude.{◌≡◌, ℕ, List, ◌++◌}
use Rattle.tib_grammar.specs.declared.Rule.{Rule}
use Rattle.tib_difference.specs.declared.listing.KeyListing.{KeyListing}
use Rattle.tib_difference.specs.Difference.{KeyOf}
use Rattle.tib_difference.specs.Listing.{Adds}

-- the edges of some first origins were added, and the others remain
pub record IsUnderway (one two : List (Rule ℕ)) (order : List KeyOf) (all rest : List (ℕ × List ℕ)) (old now : KeyListing) : Type 0 where
  pub done : List (ℕ × List ℕ)
  pub adds : Adds one two order done old now
  pub are : done ++ rest ≡ all
