-- The order of trees with costs is strict and total, and so there is one list of the k best trees.
use Rattle.std.specs.Prelude.{◌≡◌, ℕ, ◌⊎◌, List, [], ◌∷◌, length, refl}
use Rattle.std.proofs.Common.{zero, suc, arith, ap, sym, ◌∙◌, subst, inl, inr}
use Rattle.std.specs.declared.cmp.Ordering.{Ordering}
use Rattle.std.specs.declared.cmp.Ordering.TheVariants.{Less, Equal, Greater}
use Rattle.std.specs.Ordering.{ordering_reverse}
use Rattle.tib_lex.proofs.Numbers.{nat_three}
use Rattle.tib_tree.specs.Trees.{Tree, Trees, none, tree, only, join, first_trees, other_trees, relabel_tree}
use Rattle.tib_tree.specs.Growth.{text_at, LabelsBelow}
use Rattle.tib_tree.specs.Grows.{AreDistinct}
use Rattle.tib_grammar.specs.Sides.{Symbol, label, hole, holes, holes_of, fill}
use Rattle.tib_grammar.specs.Run.{rule_at, AreRuns, yields}
use Rattle.tib_grammar.specs.declared.Rule.{Rule}
use Rattle.tib_grammar_file.specs.Printed.{LabelsBelow as SideLabelsBelow, AreLabelled}
use Rattle.tib_tree.specs.Order.{tree_cmp}
use Rattle.tib_ranked_trees.specs.First.{IsStrict}
use Rattle.tib_ranked_trees.specs.Best.{Cheaper, IsTreeAt, IsKBest, AreRanked}
use Rattle.tib_tree.proofs.TreeOrder.{tree_total, tree_exact, only_same}
use Rattle.tib_tree.proofs.Relabelling.{relabel-same}
use Rattle.tib_ranked_trees.proofs.Fronts.{IsFirst-unique}

-- labels

first-below : (n m : ℕ) (ts : Trees ℕ) → LabelsBelow n ts → LabelsBelow n (first_trees m ts)
first-below n zero ts b = tt
first-below n (suc m) none b = tt
first-below n (suc m) (tree f kids rest) b = (b.0, b.1, first-below n m rest b.2)

other-below : (n m : ℕ) (ts : Trees ℕ) → LabelsBelow n ts → LabelsBelow n (other_trees m ts)
other-below n zero ts b = b
other-below n (suc m) none b = tt
other-below n (suc m) (tree f kids rest) b = other-below n m rest b.2

join-below : (n : ℕ) (ts us : Trees ℕ) → LabelsBelow n ts → LabelsBelow n us → LabelsBelow n (join ts us)
join-below n none us b c = c
join-below n (tree f kids rest) us b c = (b.0, b.1, join-below n rest us b.2 c)

fill-below : (n : ℕ) (s : Trees (Symbol ℕ ℕ)) (ts : Trees ℕ) → SideLabelsBelow n s → LabelsBelow n ts → LabelsBelow n (fill s ts)
fill-below n none ts b c = tt
fill-below n (tree (label f) kids rest) ts b c =
    (b.0, fill-below n kids (first_trees (length (holes kids)) ts) b.1 (first-below n (length (holes kids)) ts c), fill-below n rest (other_trees (length (holes kids)) ts) b.2 (other-below n (length (holes kids)) ts c))
fill-below n (tree (hole p) kids rest) none b c = tt
fill-below n (tree (hole p) kids rest) (tree f us ts) b c = (c.0, c.1, fill-below n rest ts b c.2)

yields-below : (n : ℕ) (rules : List (Rule ℕ)) → AreLabelled n rules → (qs : List ℕ) (runs : Trees ℕ) → AreRuns rules qs runs → LabelsBelow n (yields rules runs)
yields-below n rules l [] none a = tt
yields-below n rules l [] (tree m runs rest) a = absurd a
yields-below n rules l (q ∷ qs) none a = absurd a
yields-below n rules l (q ∷ qs) (tree m runs rest) a =
    join-below n _ _ (fill-below n (only (rule_at rules m).right) (yields rules runs) (l m a.0) (yields-below n rules l (holes_of (rule_at rules m).right) runs a.2)) (yields-below n rules l qs rest a.3)

-- of two trees with costs one is cheaper, or they are the same

three : (o : Ordering) → (o ≡ Less) ⊎ ((o ≡ Equal) ⊎ (o ≡ Greater))
three Less = inl refl
three Equal = inr (inl refl)
three Greater = inr (inr refl)

turned : (a b : Ordering) → a ≡ ordering_reverse b → a ≡ Greater → b ≡ Less
turned a Less e k = refl
turned a Equal e k = absurd (cc)
turned a Greater e k = absurd (cc)

not_both : (a b : Ordering) → a ≡ ordering_reverse b → a ≡ Less → b ≡ Less → ⊥
not_both a b e k d = let f : a ≡ Greater = rw d at e in absurd (cc)

module _ (labels : List (List ℕ)) where
  abbrev text_of : Tree ℕ → Tree (List ℕ)
  text_of t = relabel_tree (text_at labels) t

  pub cheaper_apart : (a b : Tree ℕ × ℕ) → Cheaper labels a b → Cheaper labels b a → ⊥
  cheaper_apart a b h k = elim h [
    | inl x ↦ elim k [ inl y ↦ absurd (omega arith) | inr y ↦ absurd (omega (arith, y.0)) ]
    | inr x ↦ elim k [
      | inl y ↦ absurd (omega (arith, x.0))
      | inr y ↦ not_both _ _ (tree_total.antisymm (text_of a.0) (text_of b.0)) x.1 y.1
    ]
  ]

  pub cheaper_carries : (a b c : Tree ℕ × ℕ) → Cheaper labels a b → Cheaper labels b c → Cheaper labels a c
  cheaper_carries a b c (inl x) (inl y) = inl (omega arith)
  cheaper_carries a b c (inl x) (inr y) = inl (omega (arith, y.0))
  cheaper_carries a b c (inr x) (inl y) = inl (omega (arith, x.0))
  cheaper_carries a b c (inr x) (inr y) = inr (x.0 ∙ y.0, tree_total.trans (text_of a.0) (text_of b.0) (text_of c.0) x.1 y.1)

  pub cheaper_strict : IsStrict (Cheaper labels)
  cheaper_strict = record { apart = cheaper_apart; carries = cheaper_carries }

  pub cheaper_total :
      AreDistinct labels → (a b : Tree ℕ × ℕ) → LabelsBelow (length labels) (only a.0) → LabelsBelow (length labels) (only b.0) →
      Cheaper labels a b ⊎ ((a ≡ b) ⊎ Cheaper labels b a)
  cheaper_total d a b la lb = elim (nat_three a.1 b.1) [
    | inl h ↦ inl (inl h)
    | inr o ↦ elim o [
      | inr h ↦ inr (inr (inl h))
      | inl e ↦ elim (three (tree_cmp (text_of a.0) (text_of b.0))) [
        | inl x ↦ inl (inr (e, x))
        | inr y ↦ elim y [
          | inl x ↦
              let same : only (text_of a.0) ≡ only (text_of b.0) = ap only (tree_exact (text_of a.0) (text_of b.0) x) in
              let trees : a.0 ≡ b.0 = only_same a.0 b.0 (relabel-same labels d (only a.0) (only b.0) la lb same) in
              inr (inl (ap (λ t. (t, a.1)) trees ∙ ap (λ c. (b.0, c)) e))
          | inr x ↦ inr (inr (inr (sym e, turned _ _ (tree_total.antisymm (text_of a.0) (text_of b.0)) x)))
        ]
      ]
    ]
  ]

  pub tree_below : (product : ℕ → ℕ → ℕ) (rules : List (Rule ℕ)) → AreLabelled (length labels) rules → (q : ℕ) (a : Tree ℕ × ℕ) → IsTreeAt product rules q a → LabelsBelow (length labels) (only a.0)
  tree_below product rules l q a s =
      let r = s.attained.0 in subst (LabelsBelow (length labels)) r.yielded (yields-below (length labels) rules l (q ∷ []) r.runs r.are_runs)

  pub trees_total :
      AreDistinct labels → (product : ℕ → ℕ → ℕ) (rules : List (Rule ℕ)) → AreLabelled (length labels) rules → (p q : ℕ) (a b : Tree ℕ × ℕ) → IsTreeAt product rules p a → IsTreeAt product rules q b →
      Cheaper labels a b ⊎ ((a ≡ b) ⊎ Cheaper labels b a)
  trees_total d product rules l p q a b s t = cheaper_total d a b (tree_below product rules l p a s) (tree_below product rules l q b t)

  -- there is one list of the k best trees
  pub one_k_best :
      AreDistinct labels → (product : ℕ → ℕ → ℕ) (rules : List (Rule ℕ)) → AreLabelled (length labels) rules → (k : ℕ) (xs ys : List (Tree ℕ × ℕ)) →
      IsKBest product rules labels k xs → IsKBest product rules labels k ys → xs ≡ ys
  one_k_best d product rules l k xs ys h g =
      IsFirst-unique cheaper_strict (IsTreeAt product rules 0) k xs ys (λ a b s t. trees_total d product rules l 0 0 a b s t) h g

pub ranked : (product : ℕ → ℕ → ℕ) → AreRanked product
ranked product = record {
  strict = cheaper_strict;
  total = λ labels d rules l p q a b s t. trees_total labels d product rules l p q a b s t;
}
