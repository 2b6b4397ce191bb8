-- That a grammar has no list of its k cheapest trees cannot be.
use Rattle.std.proofs.Common.{◌≡◌, ◌⊎◌, ℕ, ◌<◌, ◌≤◌, List, [], ◌∷◌, ◌++◌, length, refl, ap, sym, ◌∙◌, subst, arith, zero, suc, inl, inr, length-append}
use Rattle.tib_lex.specs.Lists.{Has}
use Rattle.tib_lex.proofs.Members.{has_left, has_right}
use Rattle.tib_lex.proofs.Numbers.{below_suc_cases}
use Rattle.tib_tree.specs.Trees.{Tree, Trees, none, tree, only, sizes, size, relabel}
use Rattle.tib_tree.specs.Growth.{text_at, LabelsBelow}
use Rattle.tib_tree.specs.Grows.{AreDistinct}
use Rattle.tib_grammar.specs.declared.Rule.{Rule}
use Rattle.tib_grammar_file.specs.Printed.{AreLabelled}
use Rattle.tib_tree.proofs.Orderings.{nat_less}
use Rattle.tib_tree.proofs.Counts.{sizes-relabel}
use Rattle.tib_tree.proofs.TreeOrder.{only_same}
use Rattle.tib_ranked_trees.specs.First.{NoLater}
use Rattle.tib_ranked_trees.specs.Best.{Costed, Cheaper, IsTreeAt, IsFrontAt, IsKBest}
use Rattle.tib_ranked_trees.proofs.Fronts.{front_more, front_first, front_all, no_later_trans}
use Rattle.tib_ranked_trees.proofs.Ranks.{cheaper_strict, trees_total, tree_below}

-- all lists of trees with at most this many nodes, over the first n labels

abbrev behind : ℕ → Trees ℕ → List (Trees ℕ) → List (Trees ℕ)
behind f kids [] = []
behind f kids (r ∷ rs) = tree f kids r ∷ behind f kids rs

abbrev below : ℕ → List (Trees ℕ) → List (Trees ℕ) → List (Trees ℕ)
below f [] rs = []
below f (kids ∷ ks) rs = behind f kids rs ++ below f ks rs

abbrev with_labels : ℕ → List (Trees ℕ) → List (Trees ℕ)
with_labels zero ts = []
with_labels (suc n) ts = below n ts ts ++ with_labels n ts

abbrev forests : ℕ → ℕ → List (Trees ℕ)
forests n zero = none ∷ []
forests n (suc m) = none ∷ with_labels n (forests n m)

has_behind : (f : ℕ) (kids : Trees ℕ) (rs : List (Trees ℕ)) (r : Trees ℕ) → Has rs r → Has (behind f kids rs) (tree f kids r)
has_behind f kids [] r h = absurd h
has_behind f kids (x ∷ rs) r (inl e) = inl (ap (tree f kids) e)
has_behind f kids (x ∷ rs) r (inr h) = inr (has_behind f kids rs r h)

has_below : (f : ℕ) (ks rs : List (Trees ℕ)) (kids r : Trees ℕ) → Has ks kids → Has rs r → Has (below f ks rs) (tree f kids r)
has_below f [] rs kids r h k = absurd h
has_below f (x ∷ ks) rs kids r (inl e) k =
    has_left (behind f x rs) (below f ks rs) (tree f kids r) (subst (λ z. Has (behind f x rs) (tree f z r)) e (has_behind f x rs r k))
has_below f (x ∷ ks) rs kids r (inr h) k = has_right (behind f x rs) (below f ks rs) (tree f kids r) (has_below f ks rs kids r h k)

has_labels : (n : ℕ) (ts : List (Trees ℕ)) (f : ℕ) (kids r : Trees ℕ) → f < n → Has ts kids → Has ts r → Has (with_labels n ts) (tree f kids r)
has_labels zero ts f kids r l h k = absurd (omega (arith, l))
has_labels (suc n) ts f kids r l h k = elim (below_suc_cases f n l) [
  | inl less ↦ has_right (below n ts ts) (with_labels n ts) (tree f kids r) (has_labels n ts f kids r less h k)
  | inr same ↦
      has_left (below n ts ts) (with_labels n ts) (tree f kids r)
      (subst (λ z. Has (below z ts ts) (tree f kids r)) same (has_below f ts ts kids r h k))
]

has_forest : (n m : ℕ) (ts : Trees ℕ) → LabelsBelow n ts → sizes ts ≤ m → Has (forests n m) ts
has_forest n zero none b h = inl refl
has_forest n zero (tree f kids rest) b h = absurd (omega (arith, h))
has_forest n (suc m) none b h = inl refl
has_forest n (suc m) (tree f kids rest) b h =
    inr (has_labels n (forests n m) f kids rest b.0 (has_forest n m kids b.1 (omega (arith, h))) (has_forest n m rest b.2 (omega (arith, h))))

-- a set of numbers that is not empty has a least one
module _ (Q : ℕ → Type 0) (k : (m : ℕ) → Q m → ((i : ℕ) → Q i → m ≤ i) → ⊥) where
  none_below : (n m : ℕ) → m < n → Q m → ⊥
  none_below zero m h q = omega (arith, h)
  none_below (suc n) m h q = elim (below_suc_cases m n h) [
    | inl l ↦ none_below n m l q
    | inr e ↦ k m q (λ i r. not_below m i (λ l. none_below n i (omega (arith, e, l)) r))
  ]
    where
      not_below : (m i : ℕ) → (i < m → ⊥) → m ≤ i
      not_below m i h = grind arith

  least_number : (n : ℕ) → Q n → ⊥
  least_number n q = none_below (suc n) n (omega arith) q

pub nat_cases : (a b : ℕ) → a ≤ b → (a < b) ⊎ (a ≡ b)
nat_cases a b h = grind arith

pub size_cases : (a b : ℕ) → (a ≤ b) ⊎ (b < a)
size_cases a b = grind arith

-- a larger tree at the same cost comes later
pub larger_later : (labels : List (List ℕ)) (t u : Tree ℕ) (c : ℕ) → size t < size u → Cheaper labels (t, c) (u, c)
larger_later labels t u c h =
    let smaller : sizes (relabel (text_at labels) t.kids) < sizes (relabel (text_at labels) u.kids) =
    omega (arith, h, sizes-relabel (text_at labels) t.kids, sizes-relabel (text_at labels) u.kids) in
    inr (refl, rw (nat_less (sizes (relabel (text_at labels) t.kids)) (sizes (relabel (text_at labels) u.kids)) smaller))

module _ (labels : List (List ℕ)) (apart : AreDistinct labels) (product : ℕ → ℕ → ℕ) (rules : List (Rule ℕ)) (labelled : AreLabelled (length labels) rules) where
  abbrev pub Member : Costed → Type 0
  Member = IsTreeAt product rules 0

  total : (a b : Costed) → Member a → Member b → Cheaper labels a b ⊎ ((a ≡ b) ⊎ Cheaper labels b a)
  total a b s t = trees_total labels apart product rules labelled 0 0 a b s t

  -- some of the members
  module _ (P : Costed → Type 0) (are : (x : Costed) → P x → Member x) where
    -- of those at one cost in a list there is a first one, where there is one
    same_tree : (x : Trees ℕ) (t u : Tree ℕ) (c : ℕ) → x ≡ only t → x ≡ only u → NoLater (Cheaper labels) (t, c) (u, c)
    same_tree x t u c e f = inl (ap (λ (z : Tree ℕ). (z, c)) (only_same t u (sym e ∙ f)))

    least_among :
        (ts : List (Trees ℕ)) (c : ℕ) → (((t : Tree ℕ) → Has ts (only t) → P (t, c) → ⊥) → ⊥) →
        ((t : Tree ℕ) → P (t, c) → ((u : Tree ℕ) → Has ts (only u) → P (u, c) → NoLater (Cheaper labels) (t, c) (u, c)) → ⊥) → ⊥
    least_among [] c never some = never (λ t h p. h)
    least_among (x ∷ ts) c never some =
        least_among ts c
        (λ empty. never (λ t h p. elim h [
          | inl e ↦ some t p (λ u k q. elim k [ inl f ↦ same_tree x t u c e f | inr l ↦ absurd (empty u l q) ])
          | inr l ↦ empty t l p
        ]))
        (λ t p low. some t p (λ u k q. elim k [
          | inl e ↦ elim (total (t, c) (u, c) (are (t, c) p) (are (u, c) q)) [
            | inl b ↦ inr b
            | inr o ↦ elim o [
              | inl s ↦ inl s
              | inr b ↦ absurd (some u q (λ v l r. elim l [
                | inl f ↦ same_tree x u v c e f
                | inr m ↦ no_later_trans (cheaper_strict labels) (u, c) (t, c) (v, c) (inr b) (low v m r)
              ]))
            ]
          ]
          | inr l ↦ low u l q
        ]))

    -- and so a first one of all
    pub first_there : (y : Costed) → P y → ((c : Costed) → P c → ((z : Costed) → P z → NoLater (Cheaper labels) c z) → ⊥) → ⊥
    first_there y p k =
        least_number (λ c. (t : Tree ℕ) × P (t, c)) (λ c at low.
        let s : Tree ℕ = at.0 in
        let many : ℕ = size s in
        let listed : (t : Tree ℕ) → P (t, c) → size t ≤ many → Has (forests (length labels) many) (only t) =
        λ t q h. has_forest (length labels) many (only t) (tree_below labels product rules labelled 0 (t, c) (are (t, c) q)) (omega (arith, h)) in
        least_among (forests (length labels) many) c (λ empty. empty s (listed s at.1 (omega arith)) at.1) (λ t q first.
        k (t, c) q (λ z r. elim (nat_cases c z.1 (low z.1 (z.0, r))) [
          | inl less ↦ inr (inl less)
          | inr same ↦
              let own : P (z.0, c) = subst (λ (n : ℕ). P (z.0, n)) (sym same) r in
              subst (λ (n : ℕ). NoLater (Cheaper labels) (t, c) (z.0, n)) same (elim (size_cases (size z.0) many) [
                | inl small ↦ first z.0 (listed z.0 own small) own
                | inr large ↦
                    no_later_trans (cheaper_strict labels) (t, c) (s, c) (z.0, c) (first s (listed s at.1 (omega arith)) at.1)
                    (inr (larger_later labels s z.0 c large))
              ])
        ]))) y.1 (y.0, p)

  -- a front of k trees, or of all
  abbrev AreAll : List Costed → Type 0
  AreAll xs = (y : Costed) → Member y → (Has xs y → ⊥) → ⊥

  fronts_there : (k : ℕ) → ((xs : List Costed) → IsFrontAt product labels rules 0 xs → (length xs ≡ k) ⊎ ((length xs < k) × AreAll xs) → ⊥) → ⊥
  fronts_there zero go = go [] (record { members = tt; ascends = tt; others = λ y m new. tt }) (inl refl)
  fronts_there (suc k) go =
      fronts_there k (λ xs f o. elim o [
        | inr all ↦ go xs f (inr (omega (arith, all.0), all.1))
        | inl long ↦ go xs f (inr (
          omega (arith, long),
          λ y m new.
              first_there (λ x. Member x × (Has xs x → ⊥)) (λ x p. p.0) y (m, new) (λ c p first.
              go (xs ++ c ∷ [])
              (front_more (cheaper_strict labels) Member xs c f (record { member = p.0; new = p.1; least = λ z s out. first z (s, out) }))
              (inl (omega (arith, length-append xs (c ∷ []), long)))),
        ))
      ])

  -- the list of the k cheapest trees
  pub best_there : (k : ℕ) → ((xs : List Costed) → IsKBest product rules labels k xs → ⊥) → ⊥
  best_there k go =
      fronts_there k (λ xs f o. go xs (elim o [
        | inl long ↦ front_first (cheaper_strict labels) Member k xs f long
        | inr all ↦ front_all (cheaper_strict labels) Member k xs f all.0 all.1
      ]))
