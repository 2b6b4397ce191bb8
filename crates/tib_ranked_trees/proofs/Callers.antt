-- What a caller keeps of trees by numbers while trees are added.
use Rattle.std.specs.Prelude.{◌≡◌, ◌≢◌, ◌⊎◌, ◌+◌, ℕ, ◌<◌, ◌≤◌, List, [], ◌∷◌, slice_get, Some, None}
use Rattle.std.proofs.Common.{arith, subst, sym, ◌∙◌, inl, inr}
use Rattle.tib_tree.specs.Trees.{Tree, size, most_nodes}
use Rattle.tib_tree.specs.Grows.{Adds}
use Rattle.tib_ranked_trees.specs.Numbers.{RootsBelow, told_size}
use Rattle.tib_ranked_trees.specs.Ranked.{IsOneSmall}
use Rattle.tib_ranked_trees.proofs.TreesKept.{at_end}

-- no shapes have no labels
pub roots_none : (n : ℕ) → RootsBelow n []
roots_none n m f ms e = let bad : None ≡ Some (f ∷ ms) = e in absurd (cc)

-- labels of shapes stay below a bound when a shape is added whose label is below it
pub roots_added :
    (n : ℕ) (before now : List (List ℕ)) (label : ℕ) (children : List ℕ) → RootsBelow n before →
    label < n → Adds before (label ∷ children) now → RootsBelow n now
roots_added n before now label children b h (inl same) = subst (λ l. RootsBelow n l) (sym same.1) b
roots_added n before now label children b h (inr new) =
    subst (λ l. RootsBelow n l) (sym new.1)
    (λ m f ms e. elim (at_end before (label ∷ children) (f ∷ ms) m e) [
      | inl k ↦ b m f ms k.0
      | inr k ↦ let same : f ≡ label = first f label ms children k.1 in omega (arith, same, h)
    ])
  where
    first : (f g : ℕ) (ms ns : List ℕ) → f ∷ ms ≡ g ∷ ns → f ≡ g
    first f g ms ns e = cc

-- a tree whose stored size is a small number has this size
pub told_small : (t : Tree ℕ) → told_size t ≤ most_nodes → size t ≡ told_size t
told_small t h = omega (arith, h)

-- so its size compares with every other
pub one_small : (s t : Tree ℕ) → told_size s ≤ most_nodes → IsOneSmall s t
one_small s t h = inl (omega (arith, h))

-- labels below a bound, with one more number looked at
pub one_more_root :
    (shapes : List (List ℕ)) (bound i label : ℕ) (children : List ℕ) →
    ((m f : ℕ) (ms : List ℕ) → m < i → slice_get shapes m ≡ Some (f ∷ ms) → f < bound) →
    slice_get shapes i ≡ Some (label ∷ children) → label < bound →
    (m f : ℕ) (ms : List ℕ) → m < i + 1 → slice_get shapes m ≡ Some (f ∷ ms) → f < bound
one_more_root shapes bound i label children so at low m f ms h e = by (two m i)
  where
    two : (m i : ℕ) → (m ≡ i) ⊎ (m ≢ i)
    two m i = grind arith

    label_same : (f g : ℕ) (ms ns : List ℕ) → Some (f ∷ ms) ≡ Some (g ∷ ns) → f ≡ g
    label_same f g ms ns e = cc

    by : (m ≡ i) ⊎ (m ≢ i) → f < bound
    by (inl k) =
        let same : f ≡ label = label_same f label ms children (sym e ∙ subst (λ n. slice_get shapes n ≡ Some (label ∷ children)) (sym k) at) in
        omega (arith, same, low)
    by (inr n) = let earlier : m < i = grind (arith, n, h) in so m f ms earlier e
