-- What a search for cuts has still to come.
use Rattle.std.specs.Prelude.{◌≡◌, ℕ, ◌<◌, ◌≤◌, ◌^◌, List, [], ◌∷◌, length, Bool, true, false, Option, None, Some}
use Rattle.tib_strings.specs.declared.Word.{Word as Token}
use Rattle.tib_strings.specs.CutLists.{cuts_of}
use Rattle.tib_strings.specs.Bounds.{AreBounds}
use Rattle.tib_strings.specs.Search.{left_of}
use Rattle.tib_strings.specs.declared.search.Cuts.{Cuts}

-- the cuts that are still to come
abbrev pub remaining : Cuts → List (List ℕ)
remaining c = left_of c.string.now c.tokens.now c.from c.to c.begun c.places.items

-- a search over a string whose places have numbers, for tokens with their bounds, of which the
-- first have places
pub record IsSearch (c : Cuts) : Type 0 where
  pub few : length c.string.now < 2 ^ 32
  pub bounded : AreBounds c.string.now c.tokens.now c.to c.bounds.items
  pub room : length c.places.items ≤ length c.tokens.now

-- the search is at its beginning, or there is no cut
abbrev pub FindsCuts : List ℕ → List (Token ℕ) → ℕ → ℕ → Option Cuts → Type 0
FindsCuts string ws i j None = cuts_of string ws i j ≡ []
FindsCuts string ws i j (Some c) = IsSearch c × (remaining c ≡ cuts_of string ws i j) × (c.tokens.now ≡ ws)

-- the search is at the first cut of those that were still to come, or there was none
abbrev pub GoesTo : Cuts → Cuts → Bool → Type 0
GoesTo old new true =
    IsSearch new × (remaining old ≡ new.places.items ∷ remaining new) × (length new.places.items ≡ length old.tokens.now) × (new.tokens.now ≡ old.tokens.now)
GoesTo old new false = remaining old ≡ []
