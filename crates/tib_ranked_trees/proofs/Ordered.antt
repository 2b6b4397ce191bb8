-- The three-way order of trees with costs.
use Rattle.std.specs.Prelude.{◌≡◌, ℕ, ◌<◌, ◌⊎◌, false, List, refl}
use Rattle.std.specs.Cmp.{IsTotalOrder, nat_cmp_is}
use Rattle.std.specs.Ordering.{nat_cmp, ordering_then, is_gt}
use Rattle.std.specs.declared.cmp.Ordering.{Ordering}
use Rattle.std.specs.declared.cmp.Ordering.TheVariants.{Less, Equal, Greater}
use Rattle.std.proofs.lemmas.Cmp.{nat_cmp_total, then_total}
use Rattle.std.proofs.Common.{ap, sym, ◌∙◌, inl, inr}
use Rattle.tib_tree.specs.Trees.{only, relabel_tree}
use Rattle.tib_tree.specs.Growth.{text_at, HasLabels}
use Rattle.tib_tree.specs.Grows.{AreDistinct}
use Rattle.tib_tree.specs.Order.{tree_cmp_by}
use Rattle.tib_tree.proofs.TreeOrder.{tree_total, tree_exact, only_same}
use Rattle.tib_tree.proofs.Orderings.{three_ways, nat_itself}
use Rattle.tib_tree.proofs.Relabelling.{relabel-same}
use Rattle.tib_ranked_trees.specs.First.{NoLater}
use Rattle.tib_ranked_trees.specs.Best.{Costed, Cheaper, costed_cmp, CostsAreOrdered}

module _ (labels : List (List ℕ)) where
  by_cost : IsTotalOrder (λ (a b : Costed). nat_cmp a.1 b.1)
  by_cost = record {
    antisymm = λ a b. nat_cmp_total.antisymm a.1 b.1;
    trans = λ a b c. nat_cmp_total.trans a.1 b.1 c.1;
    congr = λ a b c. nat_cmp_total.congr a.1 b.1 c.1;
  }

  by_tree : IsTotalOrder (λ (a b : Costed). tree_cmp_by labels a.0 b.0)
  by_tree = record {
    antisymm = λ a b. tree_total.antisymm (relabel_tree (text_at labels) a.0) (relabel_tree (text_at labels) b.0);
    trans = λ a b c. tree_total.trans (relabel_tree (text_at labels) a.0) (relabel_tree (text_at labels) b.0) (relabel_tree (text_at labels) c.0);
    congr = λ a b c. tree_total.congr (relabel_tree (text_at labels) a.0) (relabel_tree (text_at labels) b.0) (relabel_tree (text_at labels) c.0);
  }

  pub total : IsTotalOrder (costed_cmp labels)
  total = then_total by_cost by_tree

  -- by the order of the costs
  by_costs : (a b : Costed) → (a.1 < b.1) ⊎ ((a.1 ≡ b.1) ⊎ (b.1 < a.1)) → (costed_cmp labels a b ≡ Less → Cheaper labels a b) × (costed_cmp labels a b ≡ Equal → (a.1 ≡ b.1) × (tree_cmp_by labels a.0 b.0 ≡ Equal))
  by_costs a b (inl h) =
      let e : nat_cmp a.1 b.1 ≡ Less = sym (nat_cmp_is a.1 b.1 Less h) in
      (λ _. inl h, λ k. let bad : Less ≡ Equal = ap (λ o. ordering_then o (tree_cmp_by labels a.0 b.0)) (sym e) ∙ k in absurd (cc))
  by_costs a b (inr (inl h)) =
      let e : nat_cmp a.1 b.1 ≡ Equal = ap (λ n. nat_cmp n b.1) h ∙ nat_itself b.1 in (
        λ k. inr (h, ap (λ o. ordering_then o (tree_cmp_by labels a.0 b.0)) (sym e) ∙ k),
        λ k. (h, ap (λ o. ordering_then o (tree_cmp_by labels a.0 b.0)) (sym e) ∙ k),
      )
  by_costs a b (inr (inr h)) =
      let e : nat_cmp a.1 b.1 ≡ Greater = sym (nat_cmp_is a.1 b.1 Greater h) in (
        λ k. let bad : Greater ≡ Less = ap (λ o. ordering_then o (tree_cmp_by labels a.0 b.0)) (sym e) ∙ k in absurd (cc),
        λ k. let bad : Greater ≡ Equal = ap (λ o. ordering_then o (tree_cmp_by labels a.0 b.0)) (sym e) ∙ k in absurd (cc),
      )

  pub less : (a b : Costed) → costed_cmp labels a b ≡ Less → Cheaper labels a b
  less a b = (by_costs a b (three_ways a.1 b.1)).0

  pub cheaper : (a b : Costed) → Cheaper labels a b → costed_cmp labels a b ≡ Less
  cheaper a b (inl h) = ap (λ o. ordering_then o (tree_cmp_by labels a.0 b.0)) (sym (nat_cmp_is a.1 b.1 Less h))
  cheaper a b (inr h) =
      let e : nat_cmp a.1 b.1 ≡ Equal = ap (λ n. nat_cmp n b.1) h.0 ∙ nat_itself b.1 in
      ap (λ o. ordering_then o (tree_cmp_by labels a.0 b.0)) e ∙ h.1

  pub exact : AreDistinct labels → (a b : Costed) → HasLabels labels a.0 → HasLabels labels b.0 → costed_cmp labels a b ≡ Equal → a ≡ b
  exact d a b la lb e =
      let both = (by_costs a b (three_ways a.1 b.1)).1 e in
      let texts = ap only (tree_exact (relabel_tree (text_at labels) a.0) (relabel_tree (text_at labels) b.0) both.1) in
      let trees : a.0 ≡ b.0 = only_same a.0 b.0 (relabel-same labels d (only a.0) (only b.0) la lb texts) in
      ap (λ t. (t, a.1)) trees ∙ ap (λ c. (b.0, c)) both.0

  pub no_later : AreDistinct labels → (a b : Costed) → HasLabels labels a.0 → HasLabels labels b.0 → is_gt (costed_cmp labels a b) ≡ false → NoLater (Cheaper labels) a b
  no_later d a b la lb h = by (costed_cmp labels a b) refl h
    where
      by : (o : Ordering) → costed_cmp labels a b ≡ o → is_gt o ≡ false → NoLater (Cheaper labels) a b
      by Less e h = inr (less a b e)
      by Equal e h = inl (exact d a b la lb e)
      by Greater e h = absurd (cc)

pub ordered : CostsAreOrdered
ordered = record {
  total = total;
  less = less;
  cheaper = cheaper;
  exact = λ labels d. exact labels d;
  no_later = λ labels d. no_later labels d;
}
