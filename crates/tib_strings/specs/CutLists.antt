-- The cuts of a list, one by one, and whether there is one.
use Rattle.std.specs.Prelude.{◌≡◌, ℕ, ◌-◌, List, [], ◌∷◌, ◌++◌, map, Bool, true, false, nat_eq, if◌then◌else◌}
use Rattle.std.proofs.Common.{zero, suc}
use Rattle.tib_strings.specs.declared.Word.{Word as Token}
use Rattle.tib_strings.specs.declared.Word.TheVariants.{Word, Hole}
use Rattle.tib_strings.specs.Cuts.{IsCut}

-- f is at position i of the list
abbrev pub stands : List ℕ → ℕ → ℕ → Bool
stands [] i f = false
stands (g ∷ gs) zero f = nat_eq g f
stands (g ∷ gs) (suc i) f = stands gs i f

-- at this many places from k on, each place before what f gives of it
abbrev pub over_places : (ℕ → List (List ℕ)) → ℕ → ℕ → List (List ℕ)
over_places f k zero = []
over_places f k (suc m) = map (λ (ks : List ℕ). k ∷ ks) (f k) ++ over_places f (suc k) m

-- the cuts of a list from i to j: a word has one step at most, a pair one to each place from its
-- own to the last
abbrev pub cuts_of : List ℕ → List (Token ℕ) → ℕ → ℕ → List (List ℕ)
cuts_of string [] i j = if nat_eq i j then [] ∷ [] else []
cuts_of string (Word f ∷ ws) i j = if stands string i f then map (λ (ks : List ℕ). suc i ∷ ks) (cuts_of string ws (suc i) j) else []
cuts_of string (Hole x ∷ ws) i j = over_places (λ k. cuts_of string ws k j) i (suc j - i)

-- f holds of one of this many places from k on
abbrev pub any_from : (ℕ → Bool) → ℕ → ℕ → Bool
any_from f k zero = false
any_from f k (suc m) = if f k then true else any_from f (suc k) m

-- the list has a cut from i to j; for one j and each end of the list this is a row of a table over
-- the places
abbrev pub reaches : List ℕ → List (Token ℕ) → ℕ → ℕ → Bool
reaches string [] j i = nat_eq i j
reaches string (Word f ∷ ws) j i = if stands string i f then reaches string ws j (suc i) else false
reaches string (Hole x ∷ ws) j i = any_from (reaches string ws j) i (suc j - i)

abbrev pub ReachesByCuts : Type 0
ReachesByCuts =
    (string : List ℕ) (ws : List (Token ℕ)) (i j : ℕ) →
    ((reaches string ws j i ≡ true) → (ks : List ℕ) × IsCut string ws i j ks)
    × ((ks : List ℕ) → IsCut string ws i j ks → reaches string ws j i ≡ true)
