-- Items of a right-hand side with their states exchanged.
use Rattle.std.specs.Prelude.{ℕ, ◌<◌, List, length}
use Rattle.std.proofs.Common.{get_or}
use Rattle.tib_grammar.specs.declared.Item.{Item}
use Rattle.tib_grammar.specs.declared.Item.TheVariants.{Label, Hole}
use Rattle.tib_expand.specs.declared.place.Place.{Place}
use Rattle.tib_expand.specs.EdgeLists.{IsWithin}
use Rattle.tib_transducer.specs.declared.Pair.{Pair}

-- the place of an item is within
abbrev pub IsItemWithin : ℕ → ℕ → Item (Pair Place) → Type 0
IsItemWithin known ends (Label f rank) = Unit {0}
IsItemWithin known ends (Hole x) = IsWithin known ends x.state

-- the place of each item is
abbrev pub HolesAreWithin : ℕ → ℕ → List (Item (Pair Place)) → Type 0
HolesAreWithin known ends items = (i : ℕ) → i < length items → IsItemWithin known ends (get_or items i (Label 0 0))
