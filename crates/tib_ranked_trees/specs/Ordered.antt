-- The order of candidates is total.
use Rattle.std.specs.Prelude.{◌≡◌, ℕ, List, refl}
use Rattle.std.specs.Cmp.{IsTotalOrder}
use Rattle.std.specs.declared.cmp.Ordering.{Ordering}
use Rattle.std.specs.declared.cmp.Ordering.TheVariants.{Less, Equal, Greater}
use Rattle.std.specs.Ordering.{nat_cmp, ordering_then}
use Rattle.std.specs.Cmp.Lexicographic.{slice_cmp}
use Rattle.std.proofs.lemmas.Cmp.{nat_cmp_total, alike_right}
use Rattle.std.proofs.Common.{ap, sym, ◌∙◌}
use Rattle.tib_tree.specs.Trees.{Tree, Trees, count, relabel, size}
use Rattle.tib_tree.specs.Growth.{text_at}
use Rattle.tib_tree.specs.Order.{tree_cmp_by, trees_cmp}
use Rattle.tib_tree.proofs.TreeOrder.{tree_total, then_reverse}
use Rattle.tib_tree.specs.Trees.{relabel_tree}
use Rattle.tib_tree.proofs.Orderings.{then_Equal}
use Rattle.tib_ranked_trees.specs.ListsOf.{ListsOf}
use Rattle.tib_ranked_trees.specs.Held.{offers_cmp, stands_for}

-- the order of two roots: by size, then by the label's text, then by the number of children
abbrev pub roots_cmp : List (List ℕ) → Tree ℕ → Tree ℕ → Ordering
roots_cmp labels s t =
    ordering_then (nat_cmp (size s) (size t)) (ordering_then (slice_cmp nat_cmp (text_at labels s.label) (text_at labels t.label)) (nat_cmp (count s.kids) (count t.kids)))

-- the order of rows of trees
abbrev pub kids_cmp : List (List ℕ) → Trees ℕ → Trees ℕ → Ordering
kids_cmp labels ts us = trees_cmp (slice_cmp nat_cmp) (relabel (text_at labels) ts) (relabel (text_at labels) us)

module _ {A : Type 0} {R S : A → A → Ordering} (o : IsTotalOrder R) (p : IsTotalOrder S) where
  carried : (x y z : A) → ordering_then (R x y) (S x y) ≡ Less → ordering_then (R y z) (S y z) ≡ Less → ordering_then (R x z) (S x z) ≡ Less
  carried x y z = by (R x y) (R y z) refl refl
    where
      by : (a b : Ordering) → R x y ≡ a → R y z ≡ b → ordering_then a (S x y) ≡ Less → ordering_then b (S y z) ≡ Less → ordering_then (R x z) (S x z) ≡ Less
      by Less Less e f h k = let g : R x z ≡ Less = o.trans x y z e f in rw g
      by Less Equal e f h k = let g : R x z ≡ Less = sym (alike_right o y z x f) ∙ e in rw g
      by Less Greater e f h k = absurd (cc)
      by Equal Less e f h k = let g : R x z ≡ Less = o.congr x y z e ∙ f in rw g
      by Equal Equal e f h k = let g : R x z ≡ Equal = o.congr x y z e ∙ f in rw g (p.trans x y z h k)
      by Equal Greater e f h k = absurd (cc)
      by Greater b e f h k = absurd (cc)

  alike : (x y z : A) → ordering_then (R x y) (S x y) ≡ Equal → ordering_then (R x z) (S x z) ≡ ordering_then (R y z) (S y z)
  alike x y z h =
      let t = then_Equal (R x y) (S x y) h in
      let a : R x z ≡ R y z = o.congr x y z t.0 in
      let b : S x z ≡ S y z = p.congr x y z t.1 in
      ap (λ (c : Ordering). ordering_then c (S x z)) a ∙ ap (λ (c : Ordering). ordering_then (R y z) c) b

  pub both_total : IsTotalOrder (λ x y. ordering_then (R x y) (S x y))
  both_total = record {
    antisymm = λ x y. then_reverse (R x y) (R y x) (S x y) (S y x) (o.antisymm x y) (p.antisymm x y);
    trans = carried;
    congr = alike;
  }

costs_total : IsTotalOrder (λ (a b : Tree ℕ × ℕ). nat_cmp a.1 b.1)
costs_total = record {
  antisymm = λ a b. nat_cmp_total.antisymm a.1 b.1;
  trans = λ a b c. nat_cmp_total.trans a.1 b.1 c.1;
  congr = λ a b c. nat_cmp_total.congr a.1 b.1 c.1;
}

trees_are : (labels : List (List ℕ)) → IsTotalOrder (λ (a b : Tree ℕ × ℕ). tree_cmp_by labels a.0 b.0)
trees_are labels = record {
  antisymm = λ a b. tree_total.antisymm (relabel_tree (text_at labels) a.0) (relabel_tree (text_at labels) b.0);
  trans = λ a b c. tree_total.trans (relabel_tree (text_at labels) a.0) (relabel_tree (text_at labels) b.0) (relabel_tree (text_at labels) c.0);
  congr = λ a b c. tree_total.congr (relabel_tree (text_at labels) a.0) (relabel_tree (text_at labels) b.0) (relabel_tree (text_at labels) c.0);
}

pub offers_total : (x : ListsOf) → IsTotalOrder (λ (a b : ℕ). offers_cmp x.labels (stands_for x a) (stands_for x b))
offers_total x =
    let o = both_total costs_total (trees_are x.labels) in
    record {
      antisymm = λ a b. o.antisymm (stands_for x a) (stands_for x b);
      trans = λ a b c. o.trans (stands_for x a) (stands_for x b) (stands_for x c);
      congr = λ a b c. o.congr (stands_for x a) (stands_for x b) (stands_for x c);
    }
