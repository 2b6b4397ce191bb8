-- How many rules are kept.
use Rattle.std.specs.Prelude.{◌≡◌, ◌⊎◌, ℕ, ◌+◌, ◌<◌, ◌≤◌, List, [], ◌∷◌, length, filter, filter_map, Option, Some, IsPermutation}
use Rattle.std.proofs.Common.{get_or}
use Rattle.tib_lex.specs.Lists.{Has}
use Rattle.tib_tree.specs.Trees.{Trees}
use Rattle.tib_grammar.specs.Run.{rule_at, AreRuns, cost}
use Rattle.tib_grammar.specs.declared.Rule.{Rule}
use Rattle.tib_cost.specs.Semiring.{most}
use Rattle.tib_prune.specs.Contexts.{Stands}
use Rattle.tib_prune.specs.Pruned.{is_at_most, ArePruned}

-- rule n occurs in some run from the start that costs at most the greatest cost
pub record StandsInRun (product : ℕ → ℕ → ℕ) (rules : List (Rule ℕ)) (n : ℕ) : Type 0 where
  pub runs : Trees ℕ
  pub are_runs : AreRuns rules (0 ∷ []) runs
  pub stands : Stands n runs
  pub within : cost product rules runs ≤ most

-- each rule that occurs in some run within the greatest cost is one of the new ones
abbrev pub KeepsAllInRuns : (ℕ → ℕ → ℕ) → List (Rule ℕ) → List (Rule ℕ) → Type 0
KeepsAllInRuns product rules new = (n : ℕ) → StandsInRun product rules n → Has new (rule_at rules n)

-- the new rules are at least `count`, or all that occur in some run within the greatest cost
abbrev pub KeepsCount : (ℕ → ℕ → ℕ) → List (Rule ℕ) → ℕ → List (Rule ℕ) → Type 0
KeepsCount product rules count new = (count ≤ length new) ⊎ KeepsAllInRuns product rules new

-- each lesser beam keeps fewer rules than `count`, and fewer than the new ones
abbrev pub IsLeastBeam : (ℕ → ℕ → ℕ) → List (Rule ℕ) → ℕ → ℕ → List (Rule ℕ) → Type 0
IsLeastBeam product rules count beam new =
    (b : ℕ) → b < beam → (others : List (Rule ℕ)) → ArePruned product rules b others →
    (length others < count) × (length others < length new)

-- these are the through costs of the rules that have one, ascending
pub record AreThroughCosts (through : Rule ℕ → Option ℕ) (rules : List (Rule ℕ))
    (costs : List ℕ) : Type 0 where
  pub same : IsPermutation (filter_map through rules) costs
  pub ascend : (i j : ℕ) → i ≤ j → j < length costs → get_or costs i 0 ≤ get_or costs j 0

-- the rules whose through costs are at most the bound
abbrev pub rules_within : (Rule ℕ → Option ℕ) → List (Rule ℕ) → ℕ → List (Rule ℕ)
rules_within through rules bound = filter (λ r. is_at_most (through r) bound) rules

-- they are at least `count`, or each rule that has a through cost is one of them
abbrev pub IsEnough : (Rule ℕ → Option ℕ) → List (Rule ℕ) → ℕ → ℕ → Type 0
IsEnough through rules count bound =
    (count ≤ length (rules_within through rules bound))
    ⊎ ((r : Rule ℕ) → Has rules r → (c : ℕ) → through r ≡ Some c → c ≤ bound)

-- the rules within the bound of a lesser beam are fewer than `count`, and than those within the
-- bound of this one; best is the inside cost of the start
pub record AreFewer (through : Rule ℕ → Option ℕ) (rules : List (Rule ℕ)) (count : ℕ)
    (start : Option ℕ) (lesser beam : ℕ) : Type 0 where
  pub best : ℕ
  pub is_best : start ≡ Some best
  pub than_count : length (rules_within through rules (best + lesser)) < count
  pub than_these : length (rules_within through rules (best + lesser))
      < length (rules_within through rules (best + beam))

-- the bound of the beam is enough, and that of each lesser beam is not
pub record IsBeamFor (through : Rule ℕ → Option ℕ) (rules : List (Rule ℕ)) (count : ℕ)
    (start : Option ℕ) (beam : ℕ) : Type 0 where
  pub enough : (best : ℕ) → start ≡ Some best → IsEnough through rules count (best + beam)
  pub least : (b : ℕ) → b < beam → AreFewer through rules count start b beam
