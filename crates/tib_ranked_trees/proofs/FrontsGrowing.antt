-- How the order of trees with costs goes up the rules.
use Rattle.std.specs.Prelude.{◌≡◌, ℕ, ◌<◌, ◌≤◌, ◌⊎◌, Bool, List, [], ◌∷◌, ◌++◌, refl}
use Rattle.std.specs.declared.cmp.Ordering.{Ordering}
use Rattle.std.specs.declared.cmp.Ordering.TheVariants.{Less, Equal, Greater}
use Rattle.std.specs.Ordering.{nat_cmp, ordering_then}
use Rattle.std.specs.Cmp.{nat_cmp_is}
use Rattle.std.specs.Cmp.Lexicographic.{slice_cmp}
use Rattle.std.proofs.lemmas.Cmp.{nat_list_cmp_total, tied_itself}
use Rattle.std.proofs.Common.{suc, arith, ap, sym, ◌∙◌, subst, inl, inr}
use Rattle.std.proofs.lemmas.List.{append_assoc}
use Rattle.tib_lex.specs.Lists.{Has, Along}
use Rattle.tib_tree.specs.Trees.{Tree, Trees, count, sizes, size, relabel}
use Rattle.tib_tree.specs.Growth.{text_at}
use Rattle.tib_cost.specs.Semiring.{ProductLaws}
use Rattle.tib_cost.proofs.Least.{at_least_right}
use Rattle.tib_tree.proofs.Counts.{sizes-relabel}
use Rattle.tib_grammar.specs.declared.Rule.{Rule}
use Rattle.tib_tree.specs.Order.{trees_cmp, tree_cmp_by}
use Rattle.tib_ranked_trees.specs.First.{NoLater}
use Rattle.tib_ranked_trees.specs.Best.{Cheaper}
use Rattle.tib_ranked_trees.specs.Levels.{root_of, trees_of, total, made}
use Rattle.tib_tree.proofs.TreeOrder.{trees_total}
use Rattle.tib_tree.proofs.Orderings.{nat_itself, nat_less}
use Rattle.tib_ranked_trees.proofs.Fronts.{no_later_trans}
use Rattle.tib_ranked_trees.proofs.Ranks.{cheaper_strict}

text_itself : (xs : List ℕ) → slice_cmp nat_cmp xs xs ≡ Equal
text_itself xs = tied_itself nat_list_cmp_total xs

trees_itself : (ts : Trees (List ℕ)) → trees_cmp (slice_cmp nat_cmp) ts ts ≡ Equal
trees_itself ts = tied_itself (trees_total nat_list_cmp_total) ts

-- sizes do not fall along the order
pub no_smaller : (a b : ℕ) (o : Ordering) → ordering_then (nat_cmp a b) o ≡ Less → a ≤ b
no_smaller a b o e = by (three a b)
  where
    three : (x y : ℕ) → (x ≤ y) ⊎ (y < x)
    three x y = grind arith

    by : (a ≤ b) ⊎ (b < a) → a ≤ b
    by (inl h) = h
    by (inr h) = let g : nat_cmp a b ≡ Greater = sym (nat_cmp_is a b Greater h) in absurd (cc (rw g at e))

-- what is after the first difference does not matter
first_less : (a b c d x y : Ordering) → ordering_then a (ordering_then b (ordering_then c (ordering_then d x))) ≡ Less → x ≡ Equal → ordering_then a (ordering_then b (ordering_then c (ordering_then d y))) ≡ Less
first_less Less b c d x y e k = refl
first_less Equal Less c d x y e k = refl
first_less Equal Equal Less d x y e k = refl
first_less Equal Equal Equal Less x y e k = refl
first_less Equal Equal Equal Equal x y e k = absurd (cc)
first_less Equal Equal Equal Greater x y e k = absurd (cc)
first_less Equal Equal Greater d x y e k = absurd (cc)
first_less Equal Greater c d x y e k = absurd (cc)
first_less Greater b c d x y e k = absurd (cc)

pub size-trees_of : (zs : List (Tree ℕ × ℕ)) (z : Tree ℕ × ℕ) → Has zs z → size z.0 ≤ sizes (trees_of zs)
size-trees_of [] z h = absurd h
size-trees_of (y ∷ ys) z (inl e) = let k : size y.0 ≡ size z.0 = ap (λ (x : Tree ℕ × ℕ). size x.0) e in omega arith
size-trees_of (y ∷ ys) z (inr h) = omega (arith, size-trees_of ys z h)

module _ (labels : List (List ℕ)) where
  abbrev row : List (Tree ℕ × ℕ) → Trees (List ℕ)
  row zs = relabel (text_at labels) (trees_of zs)

  count-row : (fs bs : List (Tree ℕ × ℕ)) (x z : Tree ℕ × ℕ) → count (row (fs ++ x ∷ bs)) ≡ count (row (fs ++ z ∷ bs))
  count-row [] bs x z = refl
  count-row (f ∷ fs) bs x z = ap suc (count-row fs bs x z)

  sizes-row : (fs bs : List (Tree ℕ × ℕ)) (x z : Tree ℕ × ℕ) → sizes (relabel (text_at labels) x.0.kids) ≤ sizes (relabel (text_at labels) z.0.kids) → sizes (row (fs ++ x ∷ bs)) ≤ sizes (row (fs ++ z ∷ bs))
  sizes-row [] bs x z h = omega arith
  sizes-row (f ∷ fs) bs x z h = omega (arith, sizes-row fs bs x z h)

  row_less : (fs bs : List (Tree ℕ × ℕ)) (x z : Tree ℕ × ℕ) → tree_cmp_by labels x.0 z.0 ≡ Less → trees_cmp (slice_cmp nat_cmp) (row (fs ++ x ∷ bs)) (row (fs ++ z ∷ bs)) ≡ Less
  row_less [] bs x z e =
      first_less (nat_cmp (sizes (relabel (text_at labels) x.0.kids)) (sizes (relabel (text_at labels) z.0.kids))) (slice_cmp nat_cmp (text_at labels x.0.label) (text_at labels z.0.label))
      (nat_cmp (count (relabel (text_at labels) x.0.kids)) (count (relabel (text_at labels) z.0.kids))) (trees_cmp (slice_cmp nat_cmp) (relabel (text_at labels) x.0.kids) (relabel (text_at labels) z.0.kids))
      Equal (trees_cmp (slice_cmp nat_cmp) (row bs) (row bs)) e refl
  row_less (f ∷ fs) bs x z e =
      rw (nat_itself (sizes (relabel (text_at labels) f.0.kids)), text_itself (text_at labels f.0.label), nat_itself (count (relabel (text_at labels) f.0.kids)), trees_itself (relabel (text_at labels) f.0.kids))
      (row_less fs bs x z e)

  tree_less :
      (f : ℕ) (fs bs : List (Tree ℕ × ℕ)) (x z : Tree ℕ × ℕ) → tree_cmp_by labels x.0 z.0 ≡ Less →
      tree_cmp_by labels (record { label = f; kids = trees_of (fs ++ x ∷ bs) }) (record { label = f; kids = trees_of (fs ++ z ∷ bs) }) ≡ Less
  tree_less f fs bs x z e = by (two (sizes (row (fs ++ x ∷ bs))) (sizes (row (fs ++ z ∷ bs))) le)
    where
      le : sizes (row (fs ++ x ∷ bs)) ≤ sizes (row (fs ++ z ∷ bs))
      le = sizes-row fs bs x z (no_smaller (sizes (relabel (text_at labels) x.0.kids)) (sizes (relabel (text_at labels) z.0.kids)) _ e)

      two : (x y : ℕ) → x ≤ y → (x < y) ⊎ (x ≡ y)
      two x y k = grind arith

      by :
          (sizes (row (fs ++ x ∷ bs)) < sizes (row (fs ++ z ∷ bs))) ⊎ (sizes (row (fs ++ x ∷ bs)) ≡ sizes (row (fs ++ z ∷ bs))) →
          tree_cmp_by labels (record { label = f; kids = trees_of (fs ++ x ∷ bs) }) (record { label = f; kids = trees_of (fs ++ z ∷ bs) }) ≡ Less
      by (inl k) = rw (nat_less (sizes (row (fs ++ x ∷ bs))) (sizes (row (fs ++ z ∷ bs))) k)
      by (inr k) =
          rw (k, nat_itself (sizes (row (fs ++ z ∷ bs))), text_itself (text_at labels f), count-row fs bs x z, nat_itself (count (row (fs ++ z ∷ bs))), row_less fs bs x z e)

  module _ {levelled weighted : Bool} {product : ℕ → ℕ → ℕ} (laws : ProductLaws levelled weighted product) where
    total-middle : (fs bs : List (Tree ℕ × ℕ)) (x : Tree ℕ × ℕ) → total product (fs ++ x ∷ bs) ≡ product (total product (fs ++ bs)) x.1
    total-middle [] bs x = laws.commutes x.1 (total product bs)
    total-middle (f ∷ fs) bs x =
        ap (product f.1) (total-middle fs bs x) ∙ sym (laws.regroups f.1 (total product (fs ++ bs)) x.1)

    -- a rule's tree comes earlier where one child does
    pub grows_at :
        (r : Rule ℕ) (fs bs : List (Tree ℕ × ℕ)) (x z : Tree ℕ × ℕ) → ((a b c : ℕ) → b < c → product a b < product a c) ⊎ (x.1 ≡ z.1) → Cheaper labels x z →
        Cheaper labels (made product r (fs ++ x ∷ bs)) (made product r (fs ++ z ∷ bs))
    grows_at r fs bs x z o (inr h) =
        inr (ap (product r.cost) (total-middle fs bs x ∙ ap (product (total product (fs ++ bs))) h.0 ∙ sym (total-middle fs bs z)), tree_less (root_of r.right.label) fs bs x z h.1)
    grows_at r fs bs x z (inr e) (inl h) = absurd (omega arith)
    grows_at r fs bs x z (inl strict) (inl h) =
        let inner : product (total product (fs ++ bs)) x.1 < product (total product (fs ++ bs)) z.1 = strict (total product (fs ++ bs)) x.1 z.1 h in
        let outer : total product (fs ++ x ∷ bs) < total product (fs ++ z ∷ bs) = omega (arith, inner, total-middle fs bs x, total-middle fs bs z) in
        inl (strict r.cost (total product (fs ++ x ∷ bs)) (total product (fs ++ z ∷ bs)) outer)

    module _ (At : ℕ → Tree ℕ × ℕ → Type 0) (orderly : ((a b c : ℕ) → b < c → product a b < product a c) ⊎ ((q : ℕ) (a : Tree ℕ × ℕ) → At q a → a.1 ≡ 0)) where
      strict_at : (q : ℕ) (x z : Tree ℕ × ℕ) → At q x → At q z → ((a b c : ℕ) → b < c → product a b < product a c) ⊎ (x.1 ≡ z.1)
      strict_at q x z a b = elim orderly [ inl s ↦ inl s | inr free ↦ inr (free q x a ∙ sym (free q z b)) ]

      -- and no later where no child is later
      pub grows_along :
          (r : Rule ℕ) (qs : List ℕ) (fs xs zs : List (Tree ℕ × ℕ)) → Along At qs xs → Along At qs zs → Along (NoLater (Cheaper labels)) xs zs →
          NoLater (Cheaper labels) (made product r (fs ++ xs)) (made product r (fs ++ zs))
      grows_along r qs fs [] [] a b h = inl refl
      grows_along r qs fs [] (z ∷ zs) a b h = absurd h
      grows_along r qs fs (x ∷ xs) [] a b h = absurd h
      grows_along r [] fs (x ∷ xs) (z ∷ zs) a b h = absurd a
      grows_along r (q ∷ qs) fs (x ∷ xs) (z ∷ zs) a b h =
          no_later_trans (cheaper_strict labels) (made product r (fs ++ x ∷ xs)) (made product r (fs ++ z ∷ xs)) (made product r (fs ++ z ∷ zs))
          (elim h.0 [
            | inl e ↦ inl (ap (λ y. made product r (fs ++ y ∷ xs)) e)
            | inr c ↦ inr (grows_at r fs xs x z (strict_at q x z a.0 b.0) c)
          ])
          (subst (λ ys. NoLater (Cheaper labels) (made product r ys) (made product r (fs ++ z ∷ zs))) (append_assoc fs (z ∷ []) xs)
          (subst (λ ys. NoLater (Cheaper labels) (made product r ((fs ++ z ∷ []) ++ xs)) (made product r ys)) (append_assoc fs (z ∷ []) zs)
          (grows_along r qs (fs ++ z ∷ []) xs zs a.1 b.1 h.1)))

    pub cost-total : (zs : List (Tree ℕ × ℕ)) (z : Tree ℕ × ℕ) → Has zs z → z.1 ≤ total product zs
    cost-total [] z h = absurd h
    cost-total (y ∷ ys) z (inl e) = let k : y.1 ≡ z.1 = ap (λ (x : Tree ℕ × ℕ). x.1) e in omega (arith, laws.at_least y.1 (total product ys))
    cost-total (y ∷ ys) z (inr h) = omega (arith, cost-total ys z h, at_least_right laws y.1 (total product ys))

    -- a child comes before the whole
    pub child_before : (r : Rule ℕ) (zs : List (Tree ℕ × ℕ)) (z : Tree ℕ × ℕ) → Has zs z → Cheaper labels z (made product r zs)
    child_before r zs z h = by (two z.1 (product r.cost (total product zs)) le)
      where
        le : z.1 ≤ product r.cost (total product zs)
        le = omega (arith, cost-total zs z h, at_least_right laws r.cost (total product zs))

        two : (x y : ℕ) → x ≤ y → (x < y) ⊎ (x ≡ y)
        two x y k = grind arith

        smaller : sizes (relabel (text_at labels) z.0.kids) < sizes (relabel (text_at labels) (trees_of zs))
        smaller = omega (arith, size-trees_of zs z h, sizes-relabel (text_at labels) z.0.kids, sizes-relabel (text_at labels) (trees_of zs))

        by : (z.1 < product r.cost (total product zs)) ⊎ (z.1 ≡ product r.cost (total product zs)) → Cheaper labels z (made product r zs)
        by (inl k) = inl k
        by (inr e) = inr (e, rw (nat_less (sizes (relabel (text_at labels) z.0.kids)) (sizes (relabel (text_at labels) (trees_of zs))) smaller))
