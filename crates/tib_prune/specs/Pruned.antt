-- A grammar without the rules that occur in no run within a beam of the cheapest one.
use Rattle.std.specs.Prelude.{◌≡◌, ◌↔◌, ℕ, ◌+◌, ◌<◌, ◌≤◌, List, [], ◌∷◌, length, map, nat_le, Bool, false, Option, None, Some}
use Rattle.tib_lex.specs.Lists.{Has, Ascends}
use Rattle.tib_tree.specs.Trees.{Tree, Trees}
use Rattle.tib_grammar.specs.GrammarOf.{GrammarOf}
use Rattle.tib_grammar.specs.Series.{IsSeries}
use Rattle.tib_cost.specs.Least.{IsNoGreater}
use Rattle.tib_grammar.specs.Run.{rule_at, AreRuns, cost}
use Rattle.tib_grammar.specs.declared.Rule.{Rule}
use Rattle.tib_inside.specs.Inside.{IsInside}
use Rattle.tib_prune.specs.Contexts.{Stands}
use Rattle.tib_prune.specs.Outside.{IsOutside, IsThrough}

-- c is not above the bound, the plain sum of the inside cost of the start and the beam in every
-- semiring
pub record IsWithinBeam (product : ℕ → ℕ → ℕ) (rules : List (Rule ℕ)) (beam c : ℕ) : Type 0 where
  pub best : ℕ
  pub is_best : IsInside product rules 0 (Some best)
  pub close : c ≤ best + beam

-- rule n has a through cost that is not above the bound
pub record IsKept (product : ℕ → ℕ → ℕ) (rules : List (Rule ℕ)) (beam n : ℕ) : Type 0 where
  pub cost : ℕ
  pub through : IsThrough product rules n cost
  pub within_beam : IsWithinBeam product rules beam cost

-- the new rules are the kept ones, in order
pub record ArePruned (product : ℕ → ℕ → ℕ) (rules : List (Rule ℕ)) (beam : ℕ) (new : List (Rule ℕ)) : Type 0 where
  pub positions : List ℕ
  pub ascend : Ascends ◌<◌ positions
  pub are_kept : (n : ℕ) → Has positions n ↔ IsKept product rules beam n
  pub are_rules : new ≡ map (rule_at rules) positions

-- the new rule n occurs in a run of new rules from the start whose cost is not above the bound
pub record StandsInCheapRun (product : ℕ → ℕ → ℕ) (rules : List (Rule ℕ)) (beam : ℕ) (new : List (Rule ℕ)) (n : ℕ) : Type 0 where
  pub runs : Trees ℕ
  pub are_runs : AreRuns new (0 ∷ []) runs
  pub stands : Stands n runs
  pub within_beam : IsWithinBeam product rules beam (cost product new runs)

-- whether v is a cost of at most n
abbrev pub is_at_most : Option ℕ → ℕ → Bool
is_at_most None n = false
is_at_most (Some c) n = nat_le c n

-- the new grammar has the states of the old one, and those of its rules that are kept
pub record IsPruned (product : ℕ → ℕ → ℕ) (beam : ℕ) (old new : GrammarOf) : Type 0 where
  pub names : new.names ≡ old.names
  pub rules : ArePruned product old.rules beam new.rules

-- each tree whose cost is not above the bound has the same cost by the new rules
abbrev pub KeepsCheapTrees : (ℕ → ℕ → ℕ) → List (Rule ℕ) → ℕ → List (Rule ℕ) → Type 0
KeepsCheapTrees product rules beam new =
    (t : Tree ℕ) (c : ℕ) → IsSeries product rules t (Some c) → IsWithinBeam product rules beam c →
    IsSeries product new t (Some c)

-- no tree costs less by the new rules
abbrev pub MakesNoneCheaper : (ℕ → ℕ → ℕ) → List (Rule ℕ) → List (Rule ℕ) → Type 0
MakesNoneCheaper product rules new =
    (t : Tree ℕ) (v w : Option ℕ) → IsSeries product rules t v → IsSeries product new t w → IsNoGreater v w

-- each tree that has a cost by the new rules had one that is not greater
abbrev pub HadNoGreaterCosts : (ℕ → ℕ → ℕ) → List (Rule ℕ) → List (Rule ℕ) → Type 0
HadNoGreaterCosts product rules new =
    (t : Tree ℕ) (c : ℕ) → IsSeries product new t (Some c) →
    (b : ℕ) × IsSeries product rules t (Some b) × (b ≤ c)

-- each new rule occurs in a run of new rules from the start whose cost is not above the bound
abbrev pub StandInCheapRuns : (ℕ → ℕ → ℕ) → List (Rule ℕ) → ℕ → List (Rule ℕ) → Type 0
StandInCheapRuns product rules beam new =
    (n : ℕ) → n < length new → StandsInCheapRun product rules beam new n

-- the inside and the outside costs of all states
pub record AreCosts (product : ℕ → ℕ → ℕ) (rules : List (Rule ℕ)) (insides outsides : ℕ → Option ℕ) : Type 0 where
  pub are_insides : (q : ℕ) → IsInside product rules q (insides q)
  pub are_outsides : (q : ℕ) → IsOutside product rules q (outsides q)
