-- Lists by numbers.
use Rattle.std.specs.Prelude.{◌≡◌, ℕ, nat_eq, if◌then◌else◌, List, [], ◌∷◌, ◌++◌, map}
use Rattle.std.specs.Global.{Vec}
use Rattle.std.proofs.Common.{get_or}
use Rattle.tib_difference.specs.Difference.{KeyOf}
use Rattle.tib_difference.specs.Tries.{positions_of}

-- the list of a number, empty where there is none
abbrev pub held : {A : Type 0} → List (Vec A) → ℕ → List A
held lists q = get_or (map (λ b. b.items) lists) q []

-- each number has the same list
abbrev pub HoldSame : {A : Type 0} → List (Vec A) → List (Vec A) → Type 0
HoldSame old new = (q : ℕ) → held new q ≡ held old q

-- a number has one more value, as its last
abbrev pub HoldsMore : {A : Type 0} → ℕ → A → List (Vec A) → List (Vec A) → Type 0
HoldsMore number value old new = (q : ℕ) → held new q ≡ (if nat_eq number q then held old q ++ value ∷ [] else held old q)

-- each state has the positions whose keys have it
abbrev pub AreHolders : List KeyOf → List (Vec ℕ) → Type 0
AreHolders order lists = (q : ℕ) → held lists q ≡ positions_of order q
