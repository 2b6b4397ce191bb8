-- The list of the k best trees: by cost, and then by the order of trees.
use Rattle.std.specs.Prelude.{◌≡◌, ℕ, ◌<◌, ◌⊎◌, false, List, [], ◌∷◌, ◌++◌, length, Some}
use Rattle.std.specs.Cmp.{IsTotalOrder}
use Rattle.std.specs.Ordering.{nat_cmp, ordering_then, is_gt}
use Rattle.std.specs.declared.cmp.Ordering.{Ordering}
use Rattle.std.specs.declared.cmp.Ordering.TheVariants.{Less, Equal}
use Rattle.tib_lex.specs.Lists.{Has}
use Rattle.tib_tree.specs.Trees.{Tree, most_nodes, size}
use Rattle.tib_tree.specs.Grows.{AreDistinct}
use Rattle.tib_tree.specs.Growth.{HasLabels}
use Rattle.tib_grammar.specs.Series.{IsSeriesAt}
use Rattle.tib_grammar.specs.declared.Rule.{Rule}
use Rattle.tib_grammar_file.specs.Printed.{AreLabelled}
use Rattle.tib_tree.specs.Order.{tree_cmp_by}
use Rattle.tib_ranked_trees.specs.First.{NoLater, IsFirst, IsFront, IsNext, IsStrict}

-- a tree with its cost
abbrev pub Costed : Type 0
Costed = Tree ℕ × ℕ

-- a tree with its cost comes before another: it costs less, or as much and comes first in the
-- order of trees
abbrev pub Cheaper : List (List ℕ) → Costed → Costed → Type 0
Cheaper labels a b = (a.1 < b.1) ⊎ ((a.1 ≡ b.1) × (tree_cmp_by labels a.0 b.0 ≡ Less))

-- a tree with what the grammar gives it at a state
abbrev pub IsTreeAt : (ℕ → ℕ → ℕ) → List (Rule ℕ) → ℕ → Costed → Type 0
IsTreeAt product rules q a = IsSeriesAt product rules q a.0 (Some a.1)

-- the first k trees of a state; a front of its trees; and the next tree after a front
abbrev pub IsFirstAt : (ℕ → ℕ → ℕ) → List (List ℕ) → List (Rule ℕ) → ℕ → ℕ → List Costed → Type 0
IsFirstAt product labels rules q k xs = IsFirst (IsTreeAt product rules q) (Cheaper labels) k xs

abbrev pub IsFrontAt : (ℕ → ℕ → ℕ) → List (List ℕ) → List (Rule ℕ) → ℕ → List Costed → Type 0
IsFrontAt product labels rules q xs = IsFront (IsTreeAt product rules q) (Cheaper labels) xs

abbrev pub IsNextAt :
    (ℕ → ℕ → ℕ) → List (List ℕ) → List (Rule ℕ) → ℕ → List Costed → Costed → Type 0
IsNextAt product labels rules q xs c = IsNext (IsTreeAt product rules q) (Cheaper labels) xs c

-- the k best trees of a grammar, the cheapest first
abbrev pub IsKBest : (ℕ → ℕ → ℕ) → List (Rule ℕ) → List (List ℕ) → ℕ → List Costed → Type 0
IsKBest product rules labels k xs = IsFirstAt product labels rules 0 k xs

-- there is one list of the k best trees
abbrev pub OneKBest : (ℕ → ℕ → ℕ) → Type 0
OneKBest product =
    (labels : List (List ℕ)) → AreDistinct labels → (rules : List (Rule ℕ)) →
    AreLabelled (length labels) rules → (k : ℕ) (xs ys : List Costed) →
    IsKBest product rules labels k xs → IsKBest product rules labels k ys → xs ≡ ys

-- The order of trees with costs is strict. Of two trees to which a grammar gives a cost, one comes
-- before the other, or they are the same.
pub record AreRanked (product : ℕ → ℕ → ℕ) : Type 0 where
  pub strict : (labels : List (List ℕ)) → IsStrict (Cheaper labels)
  pub total :
      (labels : List (List ℕ)) → AreDistinct labels → (rules : List (Rule ℕ)) →
      AreLabelled (length labels) rules → (p q : ℕ) (a b : Costed) →
      IsTreeAt product rules p a → IsTreeAt product rules q b →
      Cheaper labels a b ⊎ ((a ≡ b) ⊎ Cheaper labels b a)

-- the same order, as a three-way comparison
abbrev pub costed_cmp : List (List ℕ) → Costed → Costed → Ordering
costed_cmp labels a b = ordering_then (nat_cmp a.1 b.1) (tree_cmp_by labels a.0 b.0)

-- It is total on all trees with costs and agrees with what comes before what. Of trees whose labels
-- are in the table, only the tree itself is equal to it.
pub record CostsAreOrdered : Type 0 where
  pub total : (labels : List (List ℕ)) → IsTotalOrder (costed_cmp labels)
  pub less :
      (labels : List (List ℕ)) (a b : Costed) → costed_cmp labels a b ≡ Less → Cheaper labels a b
  pub cheaper :
      (labels : List (List ℕ)) (a b : Costed) → Cheaper labels a b → costed_cmp labels a b ≡ Less
  pub exact :
      (labels : List (List ℕ)) → AreDistinct labels → (a b : Costed) → HasLabels labels a.0 →
      HasLabels labels b.0 → costed_cmp labels a b ≡ Equal → a ≡ b
  pub no_later :
      (labels : List (List ℕ)) → AreDistinct labels → (a b : Costed) → HasLabels labels a.0 →
      HasLabels labels b.0 → is_gt (costed_cmp labels a b) ≡ false →
      NoLater (Cheaper labels) a b

-- How a front of the trees of a state grows, and when it is the list of the k best.
pub record FrontsGrow (product : ℕ → ℕ → ℕ) : Type 0 where
  pub more :
      (labels : List (List ℕ)) (rules : List (Rule ℕ)) (q : ℕ) (xs : List Costed) (c : Costed) →
      IsFrontAt product labels rules q xs →
      IsNextAt product labels rules q xs c → IsFrontAt product labels rules q (xs ++ c ∷ [])
  pub first :
      (labels : List (List ℕ)) (rules : List (Rule ℕ)) (k : ℕ) (xs : List Costed) →
      IsFrontAt product labels rules 0 xs → length xs ≡ k → IsKBest product rules labels k xs
  pub all :
      (labels : List (List ℕ)) (rules : List (Rule ℕ)) (k : ℕ) (xs : List Costed) →
      IsFrontAt product labels rules 0 xs → length xs < k →
      ((y : Costed) → IsTreeAt product rules 0 y → (Has xs y → ⊥) → ⊥) →
      IsKBest product rules labels k xs

-- A state has among its k least trees one of more than 10,000 nodes: it comes next after a front of
-- its trees that is shorter than k.
pub record HasLarge (product : ℕ → ℕ → ℕ) (labels : List (List ℕ)) (rules : List (Rule ℕ))
    (k q : ℕ) : Type 0 where
  pub front : List Costed
  pub is_front : IsFrontAt product labels rules q front
  pub few : length front < k
  pub tree : Costed
  pub next : IsNextAt product labels rules q front tree
  pub large : most_nodes < size tree.0

-- such a tree is in every list of the k least trees of the state
abbrev pub LargeIsListed : (ℕ → ℕ → ℕ) → Type 0
LargeIsListed product =
    (labels : List (List ℕ)) (rules : List (Rule ℕ)) (k q : ℕ) (xs : List Costed) →
    IsFirstAt product labels rules q k xs → (h : HasLarge product labels rules k q) →
    Has xs h.tree

-- a comes before b, or is b
abbrev pub NotAfter : List (List ℕ) → Costed → Costed → Type 0
NotAfter labels a b = NoLater (Cheaper labels) a b
