-- The complete runs of a grammar, which rules are in them, and the least cost of one with a rule.
use Rattle.std.specs.Prelude.{◌≡◌, ℕ, ◌<◌, ◌≤◌, List, [], ◌∷◌, length, Option}
use Rattle.tib_tree.specs.Trees.{Trees}
use Rattle.tib_cost.specs.Semiring.{most}
use Rattle.tib_cost.specs.Least.{IsLeast}
use Rattle.tib_grammar.specs.Run.{AreRuns, cost}
use Rattle.tib_grammar.specs.declared.Rule.{Rule}
use Rattle.tib_prune.specs.Contexts.{Stands}

-- a complete run: a run from the start whose cost is at most the greatest cost
pub record IsComplete (product : ℕ → ℕ → ℕ) (rules : List (Rule ℕ)) (run : Trees ℕ) : Type 0 where
  pub from_start : AreRuns rules (0 ∷ []) run
  pub within : cost product rules run ≤ most

-- rule n is in some complete run
pub record IsInCompleteRun (product : ℕ → ℕ → ℕ) (rules : List (Rule ℕ)) (n : ℕ) : Type 0 where
  pub run : Trees ℕ
  pub complete : IsComplete product rules run
  pub stands : Stands n run

-- c is the cost of a run from the start in which rule n is
pub record IsCostWith (product : ℕ → ℕ → ℕ) (rules : List (Rule ℕ)) (n c : ℕ) : Type 0 where
  pub run : Trees ℕ
  pub from_start : AreRuns rules (0 ∷ []) run
  pub stands : Stands n run
  pub costs : cost product rules run ≡ c

-- v is the through cost of rule n: the least cost of a complete run in which the rule is, and none
-- where it is in none
abbrev pub IsThroughCost : (ℕ → ℕ → ℕ) → List (Rule ℕ) → ℕ → Option ℕ → Type 0
IsThroughCost product rules n v = IsLeast (IsCostWith product rules n) v

-- each of the rules is in some complete run
abbrev pub AreAllInCompleteRuns : (ℕ → ℕ → ℕ) → List (Rule ℕ) → Type 0
AreAllInCompleteRuns product rules =
    (n : ℕ) → n < length rules → IsInCompleteRun product rules n
