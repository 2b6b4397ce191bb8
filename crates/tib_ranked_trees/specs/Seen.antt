-- Shared trees as the list of them.
use Rattle.std.specs.Prelude.{◌≡◌, ◌⊎◌, ℕ, ◌<◌, ◌≤◌, List, [], ◌∷◌, ◌++◌, length, slice_get, Some}
use Rattle.std.proofs.Common.{get_or}
use Rattle.tib_tree.specs.Trees.{Tree, Trees, none, tree}
use Rattle.tib_ranked_trees.specs.Numbers.{label_of, children_of, NumbersBelow}

-- what is read past an end
abbrev pub no_tree : Tree ℕ
no_tree = record { label = 0; kids = none }

-- the tree with a number
abbrev pub tree_at : List (Tree ℕ) → ℕ → Tree ℕ
tree_at trees n = get_or trees n no_tree

-- the trees with some numbers, side by side
abbrev pub row : List (Tree ℕ) → List ℕ → Trees ℕ
row trees [] = none
row trees (n ∷ ns) = tree (tree_at trees n).label (tree_at trees n).kids (row trees ns)

-- the tree of a shape over trees that were seen
abbrev pub shaped : List (Tree ℕ) → List ℕ → Tree ℕ
shaped trees s = record { label = label_of s; kids = row trees (children_of s) }

-- the trees of shapes, after those that were seen
abbrev pub seen_from : List (Tree ℕ) → List (List ℕ) → List (Tree ℕ)
seen_from trees [] = trees
seen_from trees (s ∷ shapes) = seen_from (trees ++ shaped trees s ∷ []) shapes

abbrev pub seen : List (List ℕ) → List (Tree ℕ)
seen shapes = seen_from [] shapes

-- each shape has a label, and children with lesser numbers
pub record AreShapes (shapes : List (List ℕ)) : Type 0 where
  pub rooted : (n : ℕ) → slice_get shapes n ≡ Some [] → ⊥
  pub low : (n f : ℕ) (ms : List ℕ) → slice_get shapes n ≡ Some (f ∷ ms) → NumbersBelow n ms

-- the trees are still there, with their numbers
pub record AreStill (before now : List (Tree ℕ)) : Type 0 where
  pub more : length before ≤ length now
  pub same : (n : ℕ) → n < length before → tree_at now n ≡ tree_at before n

-- a tree was appended, or was there, and has this number; no other is new
pub record Inserts (before : List (Tree ℕ)) (label : ℕ) (children : List ℕ) (n : ℕ) (now : List (Tree ℕ)) : Type 0 where
  pub below : n < length now
  pub named : tree_at now n ≡ record { label = label; kids = row before children }
  pub still : AreStill before now
  pub only : (m : ℕ) → m < length now → (m < length before) ⊎ (tree_at now m ≡ tree_at now n)
