-- Costs that were found, by state.
use Rattle.std.specs.Prelude.{◌≡◌, ◌⊎◌, ℕ, ◌<◌, ◌≤◌, ◌*◌, [], length, get_or, Option, None}
use Rattle.tib_lex.specs.Lists.{Has}
use Rattle.tib_weigh.specs.Moving.{IsMarked}
use Rattle.tib_weigh.specs.declared.found.CostsByState.{CostsByState}

-- the cost at a state
abbrev pub cost_of : CostsByState → ℕ → Option ℕ
cost_of f q = get_or f.costs.items q None

-- there is a mark for each state, and the words of marks are few enough that 32 bits number the
-- states
pub record HasMarks (f : CostsByState) : Type 0 where
  pub wide : length f.costs.items ≤ 64 * length f.marks.items
  pub few : length f.marks.items ≤ 67108864

-- the states are in range, and each that has a cost is among them and is marked
pub record IsNoted (f : CostsByState) : Type 0 where
  pub within : (i : ℕ) → i < length f.states.items → get_or f.states.items i 0 < length f.costs.items
  pub noted : (q : ℕ) → (cost_of f q ≡ None) ⊎ Has f.states.items q
  pub marks : HasMarks f
  pub marked : (q : ℕ) → (cost_of f q ≡ None) ⊎ IsMarked f.marks.items q

-- no state has a cost
pub record IsBlank (f : CostsByState) : Type 0 where
  pub none : (q : ℕ) → cost_of f q ≡ None
  pub empty : f.states.items ≡ []
  pub marks : HasMarks f
