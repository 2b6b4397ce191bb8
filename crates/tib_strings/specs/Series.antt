-- The series of a tree-to-string transducer.
use Rattle.std.specs.Prelude.{◌≡◌, ℕ, List, [], ◌∷◌, Option}
use Rattle.tib_tree.specs.Trees.{Tree, Trees, only}
use Rattle.tib_cost.specs.Least.{IsLeast}
use Rattle.tib_strings.specs.Run.{AreStringRuns, StringRunsRead, strings, string_cost}
use Rattle.tib_strings.specs.declared.StringRule.{StringRule}

-- c is the cost of some runs from the states ps that read the trees ts and output the strings ss
pub record IsStringCost (product : ℕ → ℕ → ℕ) (rules : List (StringRule ℕ)) (ps : List ℕ) (ts : Trees ℕ) (ss : List (List ℕ)) (c : ℕ) : Type 0 where
  pub runs : Trees ℕ
  pub are_runs : AreStringRuns rules ps runs
  pub reads : StringRunsRead rules runs ts
  pub output : strings rules runs ≡ ss
  pub costs : string_cost product rules runs ≡ c

-- v is the series of the transducer at the state p, the tree t and the string s: the least cost of
-- a run from p that reads t and outputs s
abbrev pub IsStringSeriesAt : (ℕ → ℕ → ℕ) → List (StringRule ℕ) → ℕ → Tree ℕ → List ℕ → Option ℕ → Type 0
IsStringSeriesAt product rules p t s v = IsLeast (IsStringCost product rules (p ∷ []) (only t) (s ∷ [])) v

-- the series of the transducer, which is that at the start
abbrev pub IsStringSeries : (ℕ → ℕ → ℕ) → List (StringRule ℕ) → Tree ℕ → List ℕ → Option ℕ → Type 0
IsStringSeries product rules t s v = IsStringSeriesAt product rules 0 t s v

-- a tree and a string have one cost
abbrev pub OneStringCost : (ℕ → ℕ → ℕ) → Type 0
OneStringCost product =
    (rules : List (StringRule ℕ)) (t : Tree ℕ) (s : List ℕ) (v w : Option ℕ) → IsStringSeries product rules t s v → IsStringSeries product rules t s w → v ≡ w
