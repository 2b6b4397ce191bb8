-- The order of trees that numbers name, by the places of their labels in the order of texts.
use Rattle.std.specs.Prelude.{◌≡◌, ℕ, ◌<◌, ◌⊎◌, List, length}
use Rattle.std.specs.declared.cmp.Ordering.{Ordering}
use Rattle.std.specs.Ordering.{nat_cmp, ordering_then}
use Rattle.std.specs.Cmp.Lexicographic.{slice_cmp}
use Rattle.std.proofs.Common.{get_or}
use Rattle.tib_tree.specs.Trees.{Tree, size}
use Rattle.tib_tree.specs.Growth.{text_at}
use Rattle.tib_tree.specs.Grows.{AreDistinct}
use Rattle.tib_tree.specs.Order.{tree_cmp_by}
use Rattle.tib_ranked_trees.specs.Numbers.{IsNamed, told_size, most_size, label_at, children_at}

-- labels compare as their ranks do
pub record AreRanksOf (labels : List (List ℕ)) (ranks : List ℕ) : Type 0 where
  pub long : length ranks ≡ length labels
  pub order :
      (f g : ℕ) → f < length labels → g < length labels →
      nat_cmp (get_or ranks f 0) (get_or ranks g 0)
      ≡ slice_cmp nat_cmp (text_at labels f) (text_at labels g)

-- each label has a place of its own among as many
pub record ArePlaces (labels : List (List ℕ)) (ranks : List ℕ) : Type 0 where
  pub below : (f : ℕ) → f < length labels → get_or ranks f 0 < length labels
  pub apart :
      (f g : ℕ) → f < length labels → g < length labels → get_or ranks f 0 ≡ get_or ranks g 0 → f ≡ g

-- One of two trees has fewer nodes than the greatest size that is stored, so their sizes compare as
-- stored.
abbrev pub IsOneSmall : Tree ℕ → Tree ℕ → Type 0
IsOneSmall s t = (size s < most_size) ⊎ (size t < most_size)

-- The order of the trees that two numbers name, over every table whose labels have these ranks.
abbrev pub IsOrderOf : List (List ℕ) → List ℕ → ℕ → ℕ → Ordering → Type 0
IsOrderOf shapes ranks one other order =
    (labels : List (List ℕ)) → AreDistinct labels → AreRanksOf labels ranks → (s t : Tree ℕ) →
    IsNamed shapes one s → IsNamed shapes other t → IsOneSmall s t → order ≡ tree_cmp_by labels s t

-- two trees by their stored sizes, then by their roots' ranks, then by their numbers of children
abbrev pub root_order : List (List ℕ) → List ℕ → ℕ → ℕ → ℕ → ℕ → Ordering
root_order shapes ranks one other m n =
    ordering_then (nat_cmp m n)
    (ordering_then
    (nat_cmp (get_or ranks (label_at shapes one) 0) (get_or ranks (label_at shapes other) 0))
    (nat_cmp (length (children_at shapes one)) (length (children_at shapes other))))

-- an order of the roots of two trees that numbers name
abbrev pub IsRootOrder : List (List ℕ) → List ℕ → ℕ → ℕ → Ordering → Type 0
IsRootOrder shapes ranks one other order =
    (s t : Tree ℕ) → IsNamed shapes one s → IsNamed shapes other t →
    order ≡ root_order shapes ranks one other (told_size s) (told_size t)
