-- Runs of a grammar, what they yield, and what they cost (derivations of a regular
-- tree grammar, Comon et al. 2007).
use Rattle.std.specs.Prelude.{◌≡◌, ℕ, ◌<◌, List, [], ◌∷◌, length}
use Rattle.std.proofs.Common.{get_or}
use Rattle.tib_tree.specs.Trees.{Trees, none, tree, only, join}
use Rattle.tib_grammar.specs.Sides.{label, holes_of, fill}
use Rattle.tib_grammar.specs.declared.Rule.{Rule}

-- what is read past the last rule
abbrev pub no_rule : Rule ℕ
no_rule = record { left = 0; right = record { label = label 0; kids = none }; cost = 0 }

-- the rule at a position, counted from 0
abbrev pub rule_at : List (Rule ℕ) → ℕ → Rule ℕ
rule_at rules n = get_or rules n no_rule

-- A run is a tree of positions of rules. For each state of a list there is a run: its root is a
-- rule of the state, and below it is a run for each hole of the rule's right-hand side, in
-- preorder.
abbrev pub AreRuns : List (Rule ℕ) → List ℕ → Trees ℕ → Type 0
AreRuns rules [] none = Unit {0}
AreRuns rules [] (tree n runs rest) = ⊥
AreRuns rules (q ∷ qs) none = ⊥
AreRuns rules (q ∷ qs) (tree n runs rest) =
    (n < length rules)
    × ((rule_at rules n).left ≡ q)
    × AreRuns rules (holes_of (rule_at rules n).right) runs
    × AreRuns rules qs rest

-- each run yields the right-hand side of its rule with what the runs below it yield in place of the
-- holes
abbrev pub yields : List (Rule ℕ) → Trees ℕ → Trees ℕ
yields rules none = none
yields rules (tree n runs rest) =
    join (fill (only (rule_at rules n).right) (yields rules runs)) (yields rules rest)

-- the product of the costs of the rules of all runs
abbrev pub cost : (ℕ → ℕ → ℕ) → List (Rule ℕ) → Trees ℕ → ℕ
cost product rules none = 0
cost product rules (tree n runs rest) =
    product (product (rule_at rules n).cost (cost product rules runs)) (cost product rules rest)

-- c is the cost of some runs from the states qs that yield the trees ts
pub record IsCost (product : ℕ → ℕ → ℕ) (rules : List (Rule ℕ)) (qs : List ℕ) (ts : Trees ℕ)
    (c : ℕ) : Type 0 where
  pub runs : Trees ℕ
  pub are_runs : AreRuns rules qs runs
  pub yielded : yields rules runs ≡ ts
  pub costs : cost product rules runs ≡ c

-- every rule costs nothing, as all do in Boolean
abbrev pub AreFree : List (Rule ℕ) → Type 0
AreFree rules = (n : ℕ) → n < length rules → (rule_at rules n).cost ≡ 0
