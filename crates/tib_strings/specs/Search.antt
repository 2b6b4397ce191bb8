-- What the steps of the search for cuts do.
use Rattle.std.specs.Prelude.{◌≡◌, ℕ, ◌+◌, ◌≤◌, List, [], ◌∷◌, length, Bool, true, false, nat_lt}
use Rattle.tib_strings.specs.declared.Word.{Word as Token}
use Rattle.tib_strings.specs.declared.Word.TheVariants.{Word, Hole}
use Rattle.tib_strings.specs.Stacks.{back, inside, behind, to_come}

-- whether a pair can end after a place, where this is the last place at which it can end; a word
-- can't
abbrev pub can_go : Token ℕ → ℕ → ℕ → Bool
can_go (Word f) place bound = false
can_go (Hole x) place bound = nat_lt place bound

module _ (string : List ℕ) (ws : List (Token ℕ)) (i j : ℕ) where
  -- one more token has its place, or nothing begins so
  abbrev pub GoesOn : List ℕ → List ℕ → Bool → Type 0
  GoesOn old new true = (length new ≡ length old + 1) × (to_come string ws i j (back old) ≡ to_come string ws i j (back new))
  GoesOn old new false = (new ≡ old) × (inside string ws i j (back old) ≡ [])

  -- all tokens have places, or nothing begins so
  abbrev pub Descends : List ℕ → List ℕ → Bool → Type 0
  Descends old new true = (length new ≡ length ws) × (to_come string ws i j (back old) ≡ to_come string ws i j (back new))
  Descends old new false = (length new ≤ length ws) × (to_come string ws i j (back old) ≡ behind string ws i j (back new))

  -- the places are a cut, or it is not among those that are to come
  abbrev pub Tries : List ℕ → List ℕ → Bool → Type 0
  Tries old new true = (length new ≡ length ws) × (to_come string ws i j (back old) ≡ new ∷ behind string ws i j (back new))
  Tries old new false = (length new ≤ length ws) × (to_come string ws i j (back old) ≡ behind string ws i j (back new))

  -- the places are the first cut of those that were to come, or there was none
  abbrev pub Finds : List ℕ → List ℕ → Bool → Type 0
  Finds old new true = (length new ≡ length ws) × (to_come string ws i j (back old) ≡ new ∷ behind string ws i j (back new))
  Finds old new false = to_come string ws i j (back old) ≡ []

  -- some token goes further, or nothing is left
  abbrev pub GoesFurther : List ℕ → List ℕ → Bool → Type 0
  GoesFurther old new true = (length new ≤ length ws) × (behind string ws i j (back old) ≡ to_come string ws i j (back new))
  GoesFurther old new false = behind string ws i j (back old) ≡ []

  -- what is left of a search that has begun, or has not
  abbrev pub left_of : Bool → List ℕ → List (List ℕ)
  left_of true ks = behind string ws i j (back ks)
  left_of false ks = to_come string ws i j (back ks)

  -- the search goes on after the current cut, or nothing is left
  abbrev pub Leaves : Bool → List ℕ → List ℕ → Bool → Type 0
  Leaves begun old new true = (length new ≤ length ws) × (left_of begun old ≡ to_come string ws i j (back new))
  Leaves begun old new false = left_of begun old ≡ []
