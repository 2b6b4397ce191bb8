-- Laws of complete runs and of the grammar of runs, over any rules.
use Rattle.std.specs.Prelude.{◌≡◌, ◌↔◌, ℕ, ◌<◌, List, length, Option, Some}
use Rattle.tib_tree.specs.Trees.{Trees}
use Rattle.tib_grammar.specs.Forms.{AreNormal}
use Rattle.tib_grammar.specs.Run.{rule_at, AreRuns, yields, cost}
use Rattle.tib_grammar.specs.declared.Rule.{Rule}
use Rattle.tib_prune.specs.Outside.{through}
use Rattle.tib_prune.specs.Pruned.{AreCosts}
use Rattle.tib_trim.specs.Complete.{IsInCompleteRun, IsThroughCost}
use Rattle.tib_trim.specs.RunsOf.{runs_of}

-- the runs of the grammar of runs are the runs of the grammar
abbrev pub HasTheRuns : Type 0
HasTheRuns = (rules : List (Rule ℕ)) (qs : List ℕ) (runs : Trees ℕ) → AreRuns rules qs runs ↔ AreRuns (runs_of rules) qs runs

-- each of them yields itself there
abbrev pub YieldsTheRuns : Type 0
YieldsTheRuns = (rules : List (Rule ℕ)) (qs : List ℕ) (runs : Trees ℕ) → AreRuns rules qs runs → yields (runs_of rules) runs ≡ runs

-- and costs the same
abbrev pub CostsTheSame : (ℕ → ℕ → ℕ) → Type 0
CostsTheSame product = (rules : List (Rule ℕ)) (runs : Trees ℕ) → cost product (runs_of rules) runs ≡ cost product rules runs

-- the grammar of runs is in normal form
abbrev pub IsInNormalForm : Type 0
IsInNormalForm = (rules : List (Rule ℕ)) → AreNormal (runs_of rules)

-- the product of the outside cost of a rule's left state, of its cost and of the inside costs of
-- the states in its right side is the least cost of a complete run in which the rule is
abbrev pub ThroughCostsAreLeast : (ℕ → ℕ → ℕ) → Type 0
ThroughCostsAreLeast product =
    (rules : List (Rule ℕ)) (insides outsides : ℕ → Option ℕ) → AreCosts product rules insides outsides → (n : ℕ) → n < length rules →
    IsThroughCost product rules n (through product insides outsides (rule_at rules n))

-- a rule is in a complete run exactly where it has a through cost
abbrev pub CompleteRunsHaveCosts : (ℕ → ℕ → ℕ) → Type 0
CompleteRunsHaveCosts product =
    (rules : List (Rule ℕ)) (n : ℕ) (v : Option ℕ) → IsThroughCost product rules n v →
    IsInCompleteRun product rules n ↔ ((c : ℕ) × (v ≡ Some c))
