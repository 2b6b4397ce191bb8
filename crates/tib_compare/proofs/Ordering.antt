-- What the order of trees says of sizes.
use Rattle.std.specs.Prelude.{◌≡◌, ℕ, ◌≤◌, List}
use Rattle.std.specs.declared.cmp.Ordering.{Ordering}
use Rattle.std.specs.declared.cmp.Ordering.TheVariants.{Less, Equal, Greater}
use Rattle.std.specs.Ordering.{nat_cmp, ordering_then}
use Rattle.std.specs.Cmp.{nat_cmp_is}
use Rattle.std.specs.Cmp.Lexicographic.{slice_cmp}
use Rattle.std.proofs.Common.{arith, ap, sym, ◌∙◌, inl, inr, refl}
use Rattle.tib_tree.specs.Trees.{Tree, sizes, size, relabel, relabel_tree, only, none}
use Rattle.tib_tree.specs.Growth.{text_at}
use Rattle.tib_tree.proofs.Counts.{sizes-relabel}
use Rattle.tib_tree.specs.Order.{trees_cmp, tree_cmp_by}
use Rattle.tib_tree.proofs.Orderings.{three_ways}
use Rattle.tib_ranked_trees.proofs.Ranks.{cheaper_apart}

first_decides : (a b : ℕ) (x : Ordering) → ordering_then (nat_cmp a b) x ≡ Less → a ≤ b
first_decides a b x e = elim (three_ways a b) [
  | inl h ↦ omega arith
  | inr o ↦ elim o [
    | inl h ↦ omega arith
    | inr h ↦
        let g : nat_cmp a b ≡ Greater = sym (nat_cmp_is a b Greater h) in
        let bad : Greater ≡ Less = sym (ap (λ (c : Ordering). ordering_then c x) g) ∙ e in
        absurd (cc)
  ]
]

module _ (labels : List (List ℕ)) where
  -- a tree that comes before another has no more nodes
  pub no_larger : (u t : Tree ℕ) → tree_cmp_by labels u t ≡ Less → size u ≤ size t
  no_larger u t e =
      let low : sizes (relabel (text_at labels) u.kids) ≤ sizes (relabel (text_at labels) t.kids) =
      first_decides (sizes (relabel (text_at labels) u.kids)) (sizes (relabel (text_at labels) t.kids)) _ e
      in
      omega (arith, low, sizes-relabel (text_at labels) u.kids, sizes-relabel (text_at labels) t.kids)

  -- two trees do not both come before each other
  pub not_both_before : (s t : Tree ℕ) → tree_cmp_by labels s t ≡ Less → tree_cmp_by labels t s ≡ Less → ⊥
  not_both_before s t h k = cheaper_apart labels (s, 0) (t, 0) (inr (refl, h)) (inr (refl, k))
