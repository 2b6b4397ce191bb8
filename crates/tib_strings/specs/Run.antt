-- Runs of a tree-to-string transducer, what they read, what they output, and what they cost
-- (tree-to-string transducers, Huang, Knight and Joshi 2006; costs, left sides of several labels
-- and labelled variables are this project's own).
use Rattle.std.specs.Prelude.{◌≡◌, ℕ, ◌<◌, List, [], ◌∷◌, ◌++◌, length}
use Rattle.tib_tree.specs.Trees.{Trees, none, tree}
use Rattle.tib_transducer.specs.Run.{Fits, pick}
use Rattle.tib_strings.specs.Rules.{string_rule, states_in, variables_in}
use Rattle.tib_strings.specs.declared.Word.{Word as Token}
use Rattle.tib_strings.specs.declared.Word.TheVariants.{Word, Hole}
use Rattle.tib_strings.specs.declared.StringRule.{StringRule}

-- A run is a tree of positions of rules. For each state of a list there is a run: its root is a
-- rule of the state, and below it is a run for each pair of the rule's right side, in order, from
-- the pair's state.
abbrev pub AreStringRuns : List (StringRule ℕ) → List ℕ → Trees ℕ → Type 0
AreStringRuns rules [] none = Unit {0}
AreStringRuns rules [] (tree n runs rest) = ⊥
AreStringRuns rules (p ∷ ps) none = ⊥
AreStringRuns rules (p ∷ ps) (tree n runs rest) =
    (n < length rules)
    × ((string_rule rules n).state ≡ p)
    × AreStringRuns rules (states_in (string_rule rules n).right) runs
    × AreStringRuns rules ps rest

-- Each run reads its tree: the left side of its rule fits the tree, and the run at each pair reads
-- the tree of the pair's variable.
abbrev pub StringRunsRead : List (StringRule ℕ) → Trees ℕ → Trees ℕ → Type 0
StringRunsRead rules none none = Unit {0}
StringRunsRead rules none (tree f kids more) = ⊥
StringRunsRead rules (tree n runs rest) none = ⊥
StringRunsRead rules (tree n runs rest) (tree f kids more) =
    Fits (string_rule rules n).left (tree f kids none) (λ args. StringRunsRead rules runs (pick args (variables_in (string_rule rules n).right)))
    × StringRunsRead rules rest more

-- the words of a list, with strings in place of its pairs, in order
abbrev pub put : {P : Type 0} → List (Token P) → List (List ℕ) → List ℕ
put [] ss = []
put (Word f ∷ ws) ss = f ∷ put ws ss
put (Hole x ∷ ws) [] = []
put (Hole x ∷ ws) (s ∷ ss) = s ++ put ws ss

-- each run outputs the right side of its rule with what the runs below it output in place of the
-- pairs
abbrev pub strings : List (StringRule ℕ) → Trees ℕ → List (List ℕ)
strings rules none = []
strings rules (tree n runs rest) = put (string_rule rules n).right (strings rules runs) ∷ strings rules rest

-- the product of the costs of the rules of all runs
abbrev pub string_cost : (ℕ → ℕ → ℕ) → List (StringRule ℕ) → Trees ℕ → ℕ
string_cost product rules none = 0
string_cost product rules (tree n runs rest) =
    product (product (string_rule rules n).cost (string_cost product rules runs)) (string_cost product rules rest)
