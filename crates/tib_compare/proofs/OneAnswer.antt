-- There is one answer.
use Rattle.std.specs.Prelude.{◌≡◌, ◌⊎◌, ℕ, max, List, length, Some, refl}
use Rattle.std.proofs.Common.{arith, ap, sym, subst, inl, inr}
use Rattle.std.specs.declared.cmp.Ordering.TheVariants.{Less}
use Rattle.tib_tree.specs.Trees.{Tree, only}
use Rattle.tib_tree.specs.Growth.{LabelsBelow}
use Rattle.tib_tree.specs.Grows.{AreDistinct}
use Rattle.tib_tree.specs.Order.{tree_cmp_by}
use Rattle.tib_grammar.specs.declared.Rule.{Rule}
use Rattle.tib_grammar_file.specs.Printed.{AreLabelled}
use Rattle.tib_ranked_trees.proofs.Ranks.{cheaper_total, tree_below}
use Rattle.tib_compare.specs.Compared.{HasCost, IsLeastOnly, IsCompared, HasOneAnswer, ExcludesTooLarge}
use Rattle.tib_compare.specs.declared.compared.Compared.{Compared}
use Rattle.tib_compare.specs.declared.compared.Compared.TheVariants.{Same, First, Second}

module _ (labels : List (List ℕ)) (distinct : AreDistinct labels) where
  below : (rules : List (Rule ℕ)) → AreLabelled (length labels) rules → (t : Tree ℕ) → HasCost rules t → LabelsBelow (length labels) (only t)
  below rules l t h = tree_below labels max rules l 0 (t, h.0) h.1

  -- of two trees that have a cost one comes before the other, or they are the same
  pub one_first :
      (one two : List (Rule ℕ)) → AreLabelled (length labels) one → AreLabelled (length labels) two → (t u : Tree ℕ) → HasCost one t → HasCost two u →
      (t ≡ u) ⊎ ((tree_cmp_by labels t u ≡ Less) ⊎ (tree_cmp_by labels u t ≡ Less))
  one_first one two l m t u h k = elim (cheaper_total labels distinct (t, 0) (u, 0) (below one l t h) (below two m u k)) [
    | inl a ↦ elim a [ inl bad ↦ absurd (omega arith) | inr e ↦ inr (inl e.1) ]
    | inr o ↦ elim o [
      | inl e ↦ inl (ap (λ (p : Tree ℕ × ℕ). p.0) e)
      | inr a ↦ elim a [ inl bad ↦ absurd (omega arith) | inr e ↦ inr (inr e.1) ]
    ]
  ]

  twice : (one two : List (Rule ℕ)) → AreLabelled (length labels) one → (t u : Tree ℕ) → IsLeastOnly labels one two t → IsLeastOnly labels one two u → t ≡ u
  twice one two l t u a b = elim (one_first one one l l t u a.only.0 b.only.0) [
    | inl e ↦ e
    | inr o ↦ elim o [ inl k ↦ absurd (a.only.1 ((b.least t k).0 a.only.0)) | inr k ↦ absurd (b.only.1 ((a.least u k).0 b.only.0)) ]
  ]

  -- one tree has a cost in the first alone and another in the second alone, each the least
  crossed :
      (one two : List (Rule ℕ)) → AreLabelled (length labels) one → AreLabelled (length labels) two → (t u : Tree ℕ) → IsLeastOnly labels one two t → IsLeastOnly labels two one u → ⊥
  crossed one two l m t u a b = elim (one_first one two l m t u a.only.0 b.only.0) [
    | inl e ↦ a.only.1 (subst (λ (s : Tree ℕ). HasCost two s) (sym e) b.only.0)
    | inr o ↦ elim o [ inl k ↦ a.only.1 ((b.least t k).1 a.only.0) | inr k ↦ b.only.1 ((a.least u k).1 b.only.0) ]
  ]

  module _ (one two : List (Rule ℕ)) (l : AreLabelled (length labels) one) (m : AreLabelled (length labels) two) where
    by : (a b : Compared) → IsCompared labels one two a → IsCompared labels one two b → a ≡ b
    by Same Same a b = refl
    by Same (First u) a b = absurd (b.only.1 ((a u).0 b.only.0))
    by Same (Second u) a b = absurd (b.only.1 ((a u).1 b.only.0))
    by (First t) Same a b = absurd (a.only.1 ((b t).0 a.only.0))
    by (First t) (First u) a b = ap First (twice one two l t u a b)
    by (First t) (Second u) a b = absurd (crossed one two l m t u a b)
    by (Second t) Same a b = absurd (a.only.1 ((b t).1 a.only.0))
    by (Second t) (First u) a b = absurd (crossed one two l m u t b a)
    by (Second t) (Second u) a b = ap Second (twice two one m t u a b)

pub one_answer : HasOneAnswer
one_answer = λ labels distinct one two l m a b h k. by labels distinct one two l m a b h k

-- an answer excludes that the least tree is too large
pub not_too_large : ExcludesTooLarge
not_too_large labels one two Same h small l = elim l.0.1 [ inl o ↦ o.1 ((h l.0.0).0 o.0) | inr o ↦ o.1 ((h l.0.0).1 o.0) ]
not_too_large labels one two (First t) h small l = let large = l.1 t (inl h.only) in omega (arith, large, small)
not_too_large labels one two (Second t) h small l = let large = l.1 t (inr h.only) in omega (arith, large, small)
