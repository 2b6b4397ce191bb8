-- The trees below a cost, and those of the level at it.
use Rattle.std.specs.Prelude.{◌≡◌, ◌⊎◌, ℕ, ◌-◌, ◌<◌, ◌≤◌, List, [], length}
use Rattle.std.specs.declared.cmp.Ordering.TheVariants.{Less}
use Rattle.std.proofs.Common.{suc, get_or}
use Rattle.tib_lex.specs.Lists.{Each, Ascends}
use Rattle.tib_cost.specs.Semiring.{most}
use Rattle.tib_grammar.specs.declared.Rule.{Rule}
use Rattle.tib_tree.specs.Order.{tree_cmp_by}
use Rattle.tib_ranked_trees.specs.Best.{Costed, IsKBest, IsTreeAt}
use Rattle.tib_ranked_trees.specs.Levels.{level}
use Rattle.tib_ranked_trees.specs.Pass.{HasTree}

-- exactly the trees that cost less than c, fewer than k, in the order of trees
pub record AreUnder (product : ℕ → ℕ → ℕ) (labels : List (List ℕ)) (rules : List (Rule ℕ)) (c k : ℕ)
    (ys : List Costed) : Type 0 where
  pub members : Each (λ y. (d : ℕ) × (d < c) × IsTreeAt product rules 0 (y.0, d)) ys
  pub all : (y : Costed) → IsTreeAt product rules 0 y → y.1 < c → HasTree ys y.0
  pub ascend : Ascends (λ a b. tree_cmp_by labels a.0 b.0 ≡ Less) ys
  pub few : length ys < k

-- the trees below c are fewer than k, and its level has k
pub record IsSplitAt (product : ℕ → ℕ → ℕ) (labels : List (List ℕ)) (rules : List (Rule ℕ)) (k c : ℕ)
    (below at : List Costed) : Type 0 where
  pub under : AreUnder product labels rules c k below
  pub within : c ≤ most
  pub level_is : IsKBest product (level c rules) labels k at
  pub full : length at ≡ k

-- the trees of the grammar are fewer than k
pub record IsWhole (product : ℕ → ℕ → ℕ) (labels : List (List ℕ)) (rules : List (Rule ℕ)) (k : ℕ)
    (below at : List Costed) : Type 0 where
  pub under : AreUnder product labels rules (suc most) k below
  pub none : at ≡ []

-- If the grammar has k trees, c is the least cost whose level has k.
abbrev pub IsSplit :
    (ℕ → ℕ → ℕ) → List (List ℕ) → List (Rule ℕ) → ℕ → ℕ → List Costed → List Costed → Type 0
IsSplit product labels rules k c below at =
    IsSplitAt product labels rules k c below at ⊎ IsWhole product labels rules k below at

-- the list of the k best trees of a level is full, or has all its trees
pub record IsFull (product : ℕ → ℕ → ℕ) (labels : List (List ℕ)) (rules : List (Rule ℕ)) (k c : ℕ)
    (xs : List Costed) : Type 0 where
  pub is : IsKBest product (level c rules) labels k xs
  pub within : c ≤ most
  pub full : length xs ≡ k

pub record IsShort (product : ℕ → ℕ → ℕ) (labels : List (List ℕ)) (rules : List (Rule ℕ)) (k c : ℕ)
    (xs : List Costed) : Type 0 where
  pub is : IsKBest product (level c rules) labels k xs
  pub within : c ≤ most
  pub few : length xs < k

-- Of the levels of these costs, the one before `low` has fewer than k trees, and the one at `high`
-- has k.
pub record IsSearched (product : ℕ → ℕ → ℕ) (labels : List (List ℕ)) (rules : List (Rule ℕ)) (k : ℕ)
    (cs : List ℕ) (low high : ℕ) (below at : List Costed) : Type 0 where
  pub order : low ≤ high
  pub within : high ≤ length cs
  pub nothing : low ≡ 0 → below ≡ []
  pub short : 0 < low → IsShort product labels rules k (get_or cs (low - 1) 0) below
  pub full : high < length cs → IsFull product labels rules k (get_or cs high 0) at
  pub none : high ≡ length cs → at ≡ []
