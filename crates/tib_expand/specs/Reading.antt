-- How the rules of a hunt are read as edges.
use Rattle.std.specs.Prelude.{◌≡◌, ◌<◌, ℕ, List, map}
use Rattle.tib_lex.specs.Lists.{Each}
use Rattle.tib_expand.specs.EdgeLists.{position_of}
use Rattle.tib_expand.specs.declared.place.Place.{Place}

-- The places in a rule over places, the positions in a rule over positions, and the edge that each
-- of the two stands for, where each place, or position, has its key.
pub record Reading (K E R T : Type 0) : Type 0 where
  pub places : R → List Place
  pub positions : T → List ℕ
  pub read_places : (Place → K) → R → E
  pub read_positions : (ℕ → K) → T → E

module _ {K E R T : Type 0} (reading : Reading K E R T) where
  -- the rule over positions stands for the same edge, where each end has the key at its position
  abbrev pub ReadsAlike : List ℕ → R → T → Type 0
  ReadsAlike ends rule settled =
      (at : ℕ → K) → reading.read_positions at settled ≡ reading.read_places (λ place. at (position_of ends place)) rule

  -- the rule over positions has those of the places of the rule over places
  abbrev pub HasPositions : List ℕ → R → T → Type 0
  HasPositions ends rule settled = reading.positions settled ≡ map (position_of ends) (reading.places rule)

-- each position in the rules is below the bound
abbrev pub AreBelow : {T : Type 0} → (T → List ℕ) → ℕ → List T → Type 0
AreBelow positions bound rules = Each (λ rule. Each (λ n. n < bound) (positions rule)) rules
