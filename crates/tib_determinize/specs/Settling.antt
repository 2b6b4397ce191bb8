-- From the costs of states to the least one and the residuals over it.
use Rattle.std.specs.Prelude.{◌≡◌, ℕ, ◌≤◌, nat_eq, nat_lt, List, [], ◌∷◌, Option, None, Some, if◌then◌else◌}
use Rattle.std.specs.Option.{option_eq}
use Rattle.tib_lex.specs.Lists.{Has, Each, Along}
use Rattle.tib_cost.specs.Semiring.{IsResidual}
use Rattle.tib_determinize.specs.Vectors.{Rises}

-- the first of each run of entries with one state; `o` is the state before them
abbrev pub firsts : Option ℕ → List (ℕ × ℕ) → List (ℕ × ℕ)
firsts o [] = []
firsts o (x ∷ xs) = if option_eq nat_eq o (Some x.0) then firsts o xs else x ∷ firsts (Some x.0) xs

-- the lesser of two costs, of which the first may be none
abbrev pub lesser_with : Option ℕ → ℕ → ℕ
lesser_with None c = c
lesser_with (Some a) c = if nat_lt c a then c else a

-- the least of a cost, or none, and of those of the entries
abbrev pub least_from : Option ℕ → List (ℕ × ℕ) → Option ℕ
least_from o [] = o
least_from o (x ∷ xs) = least_from (Some (lesser_with o x.1)) xs

-- m is the least cost, and none where there are no costs
abbrev pub IsLeastCost : List (ℕ × ℕ) → Option ℕ → Type 0
IsLeastCost costs None = costs ≡ []
IsLeastCost costs (Some m) = ((q : ℕ) × Has {A = ℕ × ℕ} costs (q, m)) × Each (λ x. m ≤ x.1) costs

-- the same state, with the residual of its cost over m
abbrev pub IsOver : (ℕ → ℕ → ℕ) → ℕ → ℕ × ℕ → ℕ × ℕ → Type 0
IsOver product m x y = (x.0 ≡ y.0) × IsResidual product x.1 m y.1

-- The states that have a cost, ascending, each at its least one.
pub record AreLeastCosts (costs kept : List (ℕ × ℕ)) : Type 0 where
  pub rises : Rises kept
  pub sound : (x : ℕ × ℕ) → Has kept x → Has costs x
  pub whole : (x : ℕ × ℕ) → Has costs x → (u : ℕ) × Has {A = ℕ × ℕ} kept (x.0, u) × (u ≤ x.1)

-- The least of the costs, and the residuals of each state's least cost over it.
pub record AreResiduals (product : ℕ → ℕ → ℕ) (costs : List (ℕ × ℕ)) (m : ℕ) (vector : List (ℕ × ℕ)) : Type 0 where
  pub least : IsLeastCost costs (Some m)
  pub kept : List (ℕ × ℕ)
  pub are_least : AreLeastCosts costs kept
  pub over : Along (IsOver product m) kept vector
