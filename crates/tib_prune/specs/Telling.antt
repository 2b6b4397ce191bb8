-- What the rules of a state tell the states in their right sides, place by place.
use Rattle.std.specs.Prelude.{◌≡◌, ◌⊎◌, ℕ, ◌+◌, ◌≤◌, List, [], ◌∷◌, ◌++◌, length, Option, Some, Contains, sum_by}
use Rattle.tib_grammar.specs.Sides.{holes_of}
use Rattle.tib_grammar.specs.declared.Rule.{Rule}
use Rattle.tib_cost.specs.Least.{times}
use Rattle.tib_inside.specs.Inside.{total}
use Rattle.tib_inside.specs.Settling.{HasOrWaits}

-- for each of some states the product of the costs of those after it, the last state's first
abbrev pub rests_of : (ℕ → ℕ → ℕ) → (ℕ → Option ℕ) → List ℕ → List (Option ℕ)
rests_of product costs [] = []
rests_of product costs (q ∷ qs) = rests_of product costs qs ++ total product costs qs ∷ []

-- one of the states is told the entry: the product of v and of the costs of the other states
abbrev pub IsToldFrom : (ℕ → ℕ → ℕ) → (ℕ → Option ℕ) → Option ℕ → List ℕ → ℕ × ℕ → Type 0
IsToldFrom product costs v [] e = ⊥
IsToldFrom product costs v (q ∷ qs) e =
    ((q ≡ e.1) × (times product v (total product costs qs) ≡ Some e.0))
    ⊎ IsToldFrom product costs (times product v (costs q)) qs e

-- a state in the right side of one of the rules is told the entry, where d is the outside cost of
-- their left state
abbrev pub IsToldBy : (ℕ → ℕ → ℕ) → (ℕ → Option ℕ) → ℕ → List (Rule ℕ) → ℕ × ℕ → Type 0
IsToldBy product costs d [] e = ⊥
IsToldBy product costs d (r ∷ rules) e =
    IsToldFrom product costs (times product (Some d) (Some r.cost)) (holes_of r.right) e
    ⊎ IsToldBy product costs d rules e

-- how many places the right sides of some rules have
abbrev pub places_of : List (Rule ℕ) → ℕ
places_of rules = sum_by (λ r. length (holes_of r.right)) rules

-- the entries that are wanted are added, at most this many, except those of states that have a cost
pub record Adds (outsides : ℕ → Option ℕ) (IsWanted : ℕ × ℕ → Type 0) (many : ℕ)
    (before after : List (ℕ × ℕ)) : Type 0 where
  pub kept : (e : ℕ × ℕ) → Contains before e → Contains after e
  pub only : (e : ℕ × ℕ) → Contains after e → Contains before e ⊎ IsWanted e
  pub all : (e : ℕ × ℕ) → IsWanted e → HasOrWaits outsides after e.1 e.0
  pub more : length after ≤ length before + many
