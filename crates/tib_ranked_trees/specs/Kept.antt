-- Shapes with the sizes of their trees, as they are kept.
use Rattle.std.specs.Prelude.{◌≡◌, ℕ, List, [], ◌∷◌, length, slice_get, Some}
use Rattle.std.proofs.Common.{get_or}
use Rattle.tib_tree.specs.Trees.{Tree}
use Rattle.tib_ranked_trees.specs.Numbers.{IsNamed, NumbersBelow, told_size}

-- Each shape has a label, and children that were kept before it; and each tree's size is stored.
pub record AreKept (shapes : List (List ℕ)) (sizes : List ℕ) : Type 0 where
  pub rooted : (n : ℕ) → slice_get shapes n ≡ Some [] → ⊥
  pub low : (n f : ℕ) (ms : List ℕ) → slice_get shapes n ≡ Some (f ∷ ms) → NumbersBelow n ms
  pub long : length sizes ≡ length shapes
  pub sized : (n : ℕ) (t : Tree ℕ) → IsNamed shapes n t → get_or sizes n 0 ≡ told_size t
