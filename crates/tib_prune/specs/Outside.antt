-- The outside costs of the states of a grammar, and what the cheapest run through a rule costs.
use Rattle.std.specs.Prelude.{◌≡◌, ℕ, ◌<◌, ◌≤◌, List, [], ◌∷◌, length, Option, Some}
use Rattle.tib_lex.specs.Lists.{Along}
use Rattle.tib_grammar.specs.Sides.{holes_of}
use Rattle.tib_grammar.specs.Run.{rule_at}
use Rattle.tib_grammar.specs.declared.Rule.{Rule}
use Rattle.tib_cost.specs.Semiring.{most}
use Rattle.tib_cost.specs.Least.{IsLeast, times}
use Rattle.tib_inside.specs.Inside.{IsInside}
use Rattle.tib_inside.specs.Useful.{product_of}
use Rattle.tib_inside.specs.Settling.{rule_total}
use Rattle.tib_prune.specs.Contexts.{Context, AreRunsAround, cost_around}

-- c is the cost of a context run to the state q: a run from the start, one sub-run from q left out
pub record IsContextCost (product : ℕ → ℕ → ℕ) (rules : List (Rule ℕ)) (q c : ℕ) : Type 0 where
  pub context : Context ℕ
  pub are_runs : AreRunsAround rules q (0 ∷ []) context
  pub costs : cost_around product rules context ≡ c

-- v is the outside cost of the state q: the least cost of a context run to q, and none where each
-- costs more than the greatest cost
abbrev pub IsOutside : (ℕ → ℕ → ℕ) → List (Rule ℕ) → ℕ → Option ℕ → Type 0
IsOutside product rules q v = IsLeast (IsContextCost product rules q) v

-- c is the through cost of rule n: the product of the outside cost of its left state, of its own
-- cost, and of the inside costs of the states in its right side, where that is at most the greatest
-- cost
pub record IsThrough (product : ℕ → ℕ → ℕ) (rules : List (Rule ℕ)) (n c : ℕ) : Type 0 where
  pub position : n < length rules
  pub outside : ℕ
  pub is_outside : IsOutside product rules (rule_at rules n).left (Some outside)
  pub insides : List ℕ
  pub are_insides : Along (λ q d. IsInside product rules q (Some d)) (holes_of (rule_at rules n).right) insides
  pub is_product : product outside (product (rule_at rules n).cost (product_of product insides)) ≡ c
  pub within : c ≤ most

-- the same computed from the inside and outside costs of all states
abbrev pub through : (ℕ → ℕ → ℕ) → (ℕ → Option ℕ) → (ℕ → Option ℕ) → Rule ℕ → Option ℕ
through product insides outsides r = times product (outsides r.left) (rule_total product insides r)
