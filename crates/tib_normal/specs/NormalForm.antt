-- The normal form of a grammar.
use Rattle.std.specs.Prelude.{◌≡◌, ℕ, ◌+◌, ◌<◌, ◌≤◌, ◌⊎◌, List, [], ◌∷◌, ◌++◌, length, Option, Some}
use Rattle.std.proofs.Common.{zero, suc}
use Rattle.tib_tree.specs.Trees.{Trees, none, tree, size}
use Rattle.tib_grammar.specs.Sides.{Symbol, label, hole, Side as SideFor, Lone}
use Rattle.tib_grammar.specs.Run.{rule_at}
use Rattle.tib_grammar.specs.Range.{AreInRange, AreLone}
use Rattle.tib_grammar.specs.declared.Rule.{Rule}
use Rattle.tib_cost.specs.Least.{IsLeast}
use Rattle.tib_cost.specs.Semiring.{most}
use Rattle.tib_lex.specs.Lists.{Has, Ascends}
pub use Rattle.tib_grammar.specs.Sides.{labels_in}
pub use Rattle.tib_grammar.specs.Series.{KeepsSeries}
pub use Rattle.tib_lex.specs.Lists.{total}

-- A chain rule has a lone state as its right side. The rules at these positions are chain rules
-- from q to r.
abbrev pub IsChain : List (Rule ℕ) → ℕ → List ℕ → ℕ → Type 0
IsChain rules q [] r = q ≡ r
IsChain rules q (n ∷ ns) r =
    (n < length rules) × ((rule_at rules n).left ≡ q) × ((p : ℕ) × ((rule_at rules n).right ≡ Lone p) × IsChain rules p ns r)

-- the product of the costs of the rules of a chain
abbrev pub chain_cost : (ℕ → ℕ → ℕ) → List (Rule ℕ) → List ℕ → ℕ
chain_cost product rules [] = 0
chain_cost product rules (n ∷ ns) = product (rule_at rules n).cost (chain_cost product rules ns)

-- c is the cost of a chain from q to r
pub record IsChainCost (product : ℕ → ℕ → ℕ) (rules : List (Rule ℕ)) (q r c : ℕ) : Type 0 where
  pub chain : List ℕ
  pub leads : IsChain rules q chain r
  pub costs : chain_cost product rules chain ≡ c

-- d is the least cost of a chain from q to r
abbrev pub IsDistance : (ℕ → ℕ → ℕ) → List (Rule ℕ) → ℕ → ℕ → Option ℕ → Type 0
IsDistance product rules q r d = IsLeast (IsChainCost product rules q r) d

-- Some sides with a state in place of each label at their roots. The labels have states from s on,
-- in preorder.
abbrev pub heads : ℕ → Trees (Symbol ℕ ℕ) → Trees (Symbol ℕ ℕ)
heads s none = none
heads s (tree (hole q) kids rest) = tree (hole q) none (heads s rest)
heads s (tree (label f) kids rest) = tree (hole s) none (heads (suc s + labels_in kids) rest)

-- the rules of these states, one for each label in preorder
abbrev pub inner_rules : ℕ → Trees (Symbol ℕ ℕ) → List (Rule ℕ)
inner_rules s none = []
inner_rules s (tree (hole q) kids rest) = inner_rules s rest
inner_rules s (tree (label f) kids rest) =
    record { left = s; right = record { label = label f; kids = heads (suc s) kids }; cost = 0 }
    ∷ (inner_rules (suc s) kids ++ inner_rules (suc s + labels_in kids) rest)

-- the same for all rules, where the first has its states from s on; a root has no inner state
abbrev pub all_inner : ℕ → List (Rule ℕ) → List (Rule ℕ)
all_inner s [] = []
all_inner s (r ∷ rs) = inner_rules s r.right.kids ++ all_inner (s + labels_in r.right.kids) rs

-- the first inner state of rule n
abbrev pub first_inner : ℕ → List (Rule ℕ) → ℕ → ℕ
first_inner s [] n = s
first_inner s (r ∷ rs) zero = s
first_inner s (r ∷ rs) (suc n) = first_inner (s + labels_in r.right.kids) rs n

-- c is the cost at which a state of the grammar gets this side: by a chain to a state, and a rule
-- of that state that is no chain rule
pub record Reaches (product : ℕ → ℕ → ℕ) (states : ℕ) (rules : List (Rule ℕ)) (q : ℕ)
    (side : SideFor ℕ ℕ) (c : ℕ) : Type 0 where
  pub own : q < states
  pub chain : List ℕ
  pub rule : ℕ
  pub below : rule < length rules
  pub leads : IsChain rules q chain (rule_at rules rule).left
  pub root : ℕ
  pub is_label : (rule_at rules rule).right.label ≡ label root
  pub is_side : side ≡ record {
    label = label root;
    kids = heads (first_inner states rules rule) (rule_at rules rule).right.kids;
  }
  pub costs : product (chain_cost product rules chain) (rule_at rules rule).cost ≡ c

-- c is a cost of the rule from q to this side
abbrev pub IsNormalCost : (ℕ → ℕ → ℕ) → ℕ → List (Rule ℕ) → ℕ → SideFor ℕ ℕ → ℕ → Type 0
IsNormalCost product states rules q side c =
    Reaches product states rules q side c ⊎ Has (all_inner states rules) (record { left = q; right = side; cost = c })

-- No two rules agree in both sides. Each rule has the least cost of its side, and each side that
-- has a cost of at most the greatest has a rule.
pub record IsNormalForm (product : ℕ → ℕ → ℕ) (states : ℕ) (rules : List (Rule ℕ)) (new_states : ℕ)
    (new_rules : List (Rule ℕ)) : Type 0 where
  pub counted : new_states ≡ states + length (all_inner states rules)
  pub ascends : Ascends (λ r s. r.left ≤ s.left) new_rules
  pub distinct : Ascends (λ r s. r.left ≡ s.left → r.right ≡ s.right → ⊥) new_rules
  pub least : (r : Rule ℕ) → Has new_rules r →
      IsLeast (IsNormalCost product states rules r.left r.right) (Some r.cost)
  pub whole :
      (q : ℕ) (side : SideFor ℕ ℕ) (c : ℕ) → IsNormalCost product states rules q side c → c ≤ most →
      (d : ℕ) × Has new_rules (record { left = q; right = side; cost = d })

-- the normal form keeps the series
abbrev pub IsNormalized : (ℕ → ℕ → ℕ) → Type 0
IsNormalized product =
    (states : ℕ) (rules : List (Rule ℕ)) → AreInRange states rules → AreLone rules → (more : ℕ) (new : List (Rule ℕ)) → IsNormalForm product states rules more new →
    KeepsSeries product states rules new

-- one part, and one for each node of the right side
abbrev pub rule_parts : Rule ℕ → ℕ
rule_parts r = 1 + size r.right

-- the parts of a normal form: one for each state, and those of its rules
abbrev pub normal_parts : ℕ → List (Rule ℕ) → ℕ
normal_parts states rules = states + total rule_parts rules
