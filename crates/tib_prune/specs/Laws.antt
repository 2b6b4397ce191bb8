-- Laws of contexts, of outside costs, and of pruning, over any rules.
use Rattle.std.specs.Prelude.{◌≡◌, ◌↔◌, ℕ, ◌+◌, ◌<◌, ◌≤◌, List, [], ◌∷◌, length, Option, None, Some}
use Rattle.std.proofs.Common.{get_or}
use Rattle.tib_tree.specs.Trees.{Tree, Trees, only}
use Rattle.tib_grammar.specs.Sides.{holes_of}
use Rattle.tib_grammar.specs.Forms.{AreNormal}
use Rattle.tib_grammar.specs.Run.{rule_at, AreRuns, cost}
use Rattle.tib_grammar.specs.declared.Rule.{Rule}
use Rattle.tib_cost.specs.Semiring.{most}
use Rattle.tib_cost.specs.Least.{IsLeast, AtMost}
use Rattle.tib_inside.specs.Inside.{IsInside}
use Rattle.tib_prune.specs.Contexts.{Context, plug, AreRunsAround, cost_around, Stands, IsCut}
use Rattle.tib_prune.specs.Counted.{StandsInRun}
use Rattle.tib_prune.specs.Outside.{IsContextCost, IsOutside, IsThrough, through}
use Rattle.tib_prune.specs.Pruned.{IsKept, ArePruned, AreCosts, KeepsCheapTrees, MakesNoneCheaper, HadNoGreaterCosts, StandInCheapRuns}
use Rattle.tib_prune.specs.Settling.{told, IsOffered}

-- a run in place of what a context run leaves out makes a run, at the product of both costs
abbrev pub PluggingMakesRuns : (ℕ → ℕ → ℕ) → Type 0
PluggingMakesRuns product =
    (rules : List (Rule ℕ)) (qs : List ℕ) (q : ℕ) (context : Context ℕ) (run : Tree ℕ) → AreRunsAround rules q qs context → AreRuns rules (q ∷ []) (only run) →
    AreRuns rules qs (plug context run)
    × (cost product rules (plug context run) ≡ product (cost_around product rules context) (cost product rules (only run)))

-- a rule that occurs in runs cuts them into a context and the runs below the rule
abbrev pub CuttingMakesContexts : Type 0
CuttingMakesContexts =
    (rules : List (Rule ℕ)) (qs : List ℕ) (runs : Trees ℕ) (n : ℕ) → AreRuns rules qs runs → Stands n runs → IsCut rules qs runs n

-- a tree whose cost is not above the bound has the same cost by the rules that are kept
abbrev pub CheapTreesKeepTheirCosts : (ℕ → ℕ → ℕ) → Type 0
CheapTreesKeepTheirCosts product =
    (rules new : List (Rule ℕ)) (beam : ℕ) (insides outsides : ℕ → Option ℕ) → AreCosts product rules insides outsides → ArePruned product rules beam new →
    KeepsCheapTrees product rules beam new

-- no tree costs less by the rules that are kept
abbrev pub NoTreeGetsCheaper : (ℕ → ℕ → ℕ) → Type 0
NoTreeGetsCheaper product =
    (rules new : List (Rule ℕ)) (beam : ℕ) → ArePruned product rules beam new → MakesNoneCheaper product rules new

-- in normal form, a tree that has a cost by the rules that are kept had one that is not greater
abbrev pub PrunedTreesHadNoGreaterCosts : (ℕ → ℕ → ℕ) → Type 0
PrunedTreesHadNoGreaterCosts product =
    (rules new : List (Rule ℕ)) (beam : ℕ) → AreNormal rules → ArePruned product rules beam new → HadNoGreaterCosts product rules new

-- each rule that is kept occurs in a run from the start, of kept rules alone, whose cost is not
-- above the bound
abbrev pub KeptRulesStandInCheapRuns : (ℕ → ℕ → ℕ) → Type 0
KeptRulesStandInCheapRuns product =
    (rules new : List (Rule ℕ)) (beam : ℕ) (insides outsides : ℕ → Option ℕ) → AreCosts product rules insides outsides → ArePruned product rules beam new →
    StandInCheapRuns product rules beam new

-- what a rule tells a state in its right side is the cost of a context run to the state
abbrev pub ToldCostsAreContextCosts : (ℕ → ℕ → ℕ) → Type 0
ToldCostsAreContextCosts product =
    (rules : List (Rule ℕ)) (insides outsides : ℕ → Option ℕ) → ((q : ℕ) → IsInside product rules q (insides q)) →
    ((q d : ℕ) → outsides q ≡ Some d → IsOutside product rules q (Some d)) → (n i c : ℕ) → n < length rules → i < length (holes_of (rule_at rules n).right) →
    told product insides outsides (rule_at rules n) i ≡ Some c →
    IsContextCost product rules (get_or (holes_of (rule_at rules n).right) i 0) c × (c ≤ most)

-- the outside cost of a state is the least of what rules tell it, and of 0 at the start
abbrev pub OutsidesMeetTheirEquation : (ℕ → ℕ → ℕ) → Type 0
OutsidesMeetTheirEquation product =
    (rules : List (Rule ℕ)) (insides outsides : ℕ → Option ℕ) → AreCosts product rules insides outsides → (q : ℕ) →
    IsLeast (IsOffered product rules insides outsides q) (outsides q)

-- the through cost of a rule is the product of the outside cost of its left state, of its own cost,
-- and of the inside costs of the states in its right side
abbrev pub ThroughCostsAreComputed : (ℕ → ℕ → ℕ) → Type 0
ThroughCostsAreComputed product =
    (rules : List (Rule ℕ)) (insides outsides : ℕ → Option ℕ) → AreCosts product rules insides outsides → (n c : ℕ) → n < length rules →
    (through product insides outsides (rule_at rules n) ≡ Some c) ↔ IsThrough product rules n c

-- a rule is kept if its through cost is at most the plain sum of the inside cost of the start and
-- the beam
abbrev pub KeepingIsDecided : (ℕ → ℕ → ℕ) → Type 0
KeepingIsDecided product =
    (rules : List (Rule ℕ)) (insides outsides : ℕ → Option ℕ) (beam best n : ℕ) → AreCosts product rules insides outsides → insides 0 ≡ Some best →
    n < length rules → AtMost (through product insides outsides (rule_at rules n)) (best + beam) ↔ IsKept product rules beam n

-- no rule is kept where the start has no inside cost
abbrev pub NothingIsKeptWithoutRuns : (ℕ → ℕ → ℕ) → Type 0
NothingIsKeptWithoutRuns product =
    (rules : List (Rule ℕ)) (insides outsides : ℕ → Option ℕ) (beam n : ℕ) → AreCosts product rules insides outsides → insides 0 ≡ None →
    IsKept product rules beam n → ⊥

-- the rules that some beam keeps are those that occur in some run within the greatest cost
abbrev pub BeamsKeepRulesInRuns : (ℕ → ℕ → ℕ) → Type 0
BeamsKeepRulesInRuns product =
    (rules : List (Rule ℕ)) (insides outsides : ℕ → Option ℕ) → AreCosts product rules insides outsides → (n : ℕ) →
    StandsInRun product rules n ↔ ((beam : ℕ) × (beam ≤ most) × IsKept product rules beam n)
