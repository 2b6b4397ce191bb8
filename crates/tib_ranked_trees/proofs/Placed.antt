-- The places of labels in the order of their texts.
use Rattle.std.specs.Prelude.{◌≡◌, ◌≢◌, ℕ, ◌+◌, ◌<◌, ◌≤◌, ◌⊎◌, Bool, false, List, [], ◌∷◌, ◌++◌, length, IsPermutation, IsSortedBy, refl}
use Rattle.std.specs.declared.cmp.Ordering.{Ordering}
use Rattle.std.specs.declared.cmp.Ordering.TheVariants.{Less, Equal, Greater}
use Rattle.std.specs.Ordering.{nat_cmp, is_lt, ordering_reverse}
use Rattle.std.specs.Cmp.{nat_cmp_is, IsStrictWeakOrder}
use Rattle.std.specs.Fn.{Called, ComparesAs}
use Rattle.std.specs.FinMap.{slice_cmp-IsAntisymmetric, nat_cmp-IsAntisymmetric}
use Rattle.std.proofs.lemmas.Cmp.{nat_cmp_total, nat_list_cmp_total, tied_itself}
use Rattle.std.proofs.lemmas.Fn.{always_returns_same}
use Rattle.std.proofs.lemmas.List.{length-append, get_or-set_same, get_or-set_other}
use Rattle.std.proofs.lemmas.List.Sorted.{ranks_by, sorted_far, length_permutation, Contains-permutation, IsPermutation-sym}
use Rattle.std.proofs.Math.ListN.{set}
use Rattle.std.proofs.Common.{zero, suc, arith, ap, sym, ◌∙◌, subst, inl, inr, get_or}
use denote.Param.Members.{Mut}
use denote.Ref.{Bor}
use Rattle.tib_tree.specs.Growth.{text_at}
use Rattle.tib_tree.specs.Grows.{AreDistinct}
use Rattle.tib_tree.proofs.Orderings.{three_ways}
use Rattle.tib_tree.proofs.Relabelling.{same_text}
use Rattle.tib_ranked_trees.specs.Ranked.{ArePlaces, AreRanksOf}
use Rattle.tib_ranked_trees.specs.TextOrder.{text_cmp, AreLabelsBelow, IsTextOrder}

-- what is read within a list depends on no default
read_same : (xs : List ℕ) (i d e : ℕ) → i < length xs → get_or xs i d ≡ get_or xs i e
read_same [] i d e h = absurd (omega arith)
read_same (x ∷ xs) zero d e h = refl
read_same (x ∷ xs) (suc i) d e h = read_same xs i d e (omega arith)

read_more : (xs : List ℕ) (x i d : ℕ) → i < length xs → get_or (xs ++ x ∷ []) i d ≡ get_or xs i d
read_more [] x i d h = absurd (omega arith)
read_more (y ∷ ys) x zero d h = refl
read_more (y ∷ ys) x (suc i) d h = read_more ys x i d (omega arith)

read_last : (xs : List ℕ) (x i d : ℕ) → i ≡ length xs → get_or (xs ++ x ∷ []) i d ≡ x
read_last [] x zero d e = refl
read_last [] x (suc i) d e = absurd (omega arith)
read_last (y ∷ ys) x zero d e = absurd (omega arith)
read_last (y ∷ ys) x (suc i) d e = read_last ys x i d (omega arith)

-- the labels from 0 on, as far as they are listed
abbrev pub AreFirst : List ℕ → Type 0
AreFirst xs = (i d : ℕ) → i < length xs → get_or xs i d ≡ i

-- one more
pub first_more : (xs now : List ℕ) (x : ℕ) → AreFirst xs → x ≡ length xs → now ≡ xs ++ x ∷ [] → AreFirst now
first_more xs now x first e is i d h =
    ap (λ l. get_or l i d) is ∙ read i (omega (arith, h, ap length is, length-append xs (x ∷ [])))
  where
    read : (i : ℕ) → i ≤ length xs → get_or (xs ++ x ∷ []) i d ≡ i
    read i k = elim (split i k) [
      | inl l ↦ read_more xs x i d l ∙ first i d l
      | inr l ↦ read_last xs x i d l ∙ e ∙ sym l
    ]
      where
        split : (i : ℕ) → i ≤ length xs → (i < length xs) ⊎ (i ≡ length xs)
        split i k = grind arith

-- the labels from 0 on are all labels
pub all_listed : (n : ℕ) (xs : List ℕ) → AreFirst xs → length xs ≡ n → AreLabelsBelow n xs
all_listed n xs first long = record {
  long = long;
  held = λ f h. (f, omega (arith, h, long), first f f (omega (arith, h, long)));
  below = λ f c. omega (arith, first c.0 f c.1, c.2, c.1, long);
}

-- a list of them in another order has the same
pub all_reordered : (n : ℕ) (xs ys : List ℕ) → AreLabelsBelow n xs → IsPermutation xs ys → AreLabelsBelow n ys
all_reordered n xs ys a p = record {
  long = length_permutation xs ys p ∙ a.long;
  held = λ f h. Contains-permutation xs ys f p (a.held f h);
  below = λ f h. a.below f (Contains-permutation ys xs f (IsPermutation-sym xs ys p) h);
}

-- a sort by texts sorts by texts
pub sorted_by_texts :
    (labels : List (List ℕ)) {F : Type 0} {g : Mut F (Bor ℕ × (Bor ℕ × Unit {0})) Ordering} {f : F} (xs : List ℕ) →
    ((lt : ℕ → ℕ → Bool) → IsStrictWeakOrder lt → ComparesAs g lt f → IsSortedBy lt xs) →
    ((a : Bor ℕ × (Bor ℕ × Unit {0})) (r : Ordering) (f' : F) → Called g f a r f' → (r ≡ text_cmp labels a.0.now a.1.0.now) × (f' ≡ f)) →
    IsSortedBy (λ x y. is_lt (text_cmp labels x y)) xs
sorted_by_texts labels {g = g} {f = f} xs up h =
    up (λ x y. is_lt (text_cmp labels x y)) (ranks_by nat_list_cmp_total (text_at labels))
    (always_returns_same g (λ a r. is_lt r ≡ is_lt (text_cmp labels a.0.now a.1.0.now)) f (λ a r q k. (ap is_lt (h a r q k).0, (h a r q k).1)))

-- each label before a place has the number of a place where the label is
pub record ArePlaced (order ranks : List ℕ) (n place : ℕ) : Type 0 where
  pub long : length ranks ≡ n
  pub placed :
      (i : ℕ) → i < place →
      (get_or ranks (get_or order i 0) 0 < place)
      × (get_or order (get_or ranks (get_or order i 0) 0) 0 ≡ get_or order i 0)

two : (i j : ℕ) → (i ≡ j) ⊎ (i ≢ j)
two i j = grind arith

-- one more place
pub one_placed :
    (order ranks now : List ℕ) (n place : ℕ) → ArePlaced order ranks n place → get_or order place 0 < n →
    length now ≡ length ranks → now ≡ set ranks (get_or order place 0) place → ArePlaced order now n (place + 1)
one_placed order ranks now n place p low long e =
    record {
      long = long ∙ p.long;
      placed = λ i h. step i h (two (get_or order i 0) (get_or order place 0));
    }
  where
    step :
        (i : ℕ) → i < place + 1 → (get_or order i 0 ≡ get_or order place 0) ⊎ (get_or order i 0 ≢ get_or order place 0) →
        (get_or now (get_or order i 0) 0 < place + 1) × (get_or order (get_or now (get_or order i 0) 0) 0 ≡ get_or order i 0)
    step i h (inl same) =
        let read : get_or now (get_or order i 0) 0 ≡ place =
        ap (λ l. get_or l (get_or order i 0) 0) e
        ∙ ap (λ f. get_or (set ranks (get_or order place 0) place) f 0) same
        ∙ get_or-set_same ranks (get_or order place 0) place 0 (omega (arith, low, p.long))
        in
        (omega (arith, read), ap (λ k. get_or order k 0) read ∙ sym same)
    step i h (inr other) =
        let read : get_or now (get_or order i 0) 0 ≡ get_or ranks (get_or order i 0) 0 =
        ap (λ l. get_or l (get_or order i 0) 0) e ∙ get_or-set_other ranks (get_or order place 0) (get_or order i 0) place 0 other
        in
        let earlier : i < place = before i h (two i place) other in
        let q = p.placed i earlier in
        (omega (arith, read, q.0), ap (λ k. get_or order k 0) read ∙ q.1)
      where
        before : (i : ℕ) → i < place + 1 → (i ≡ place) ⊎ (i ≢ place) → get_or order i 0 ≢ get_or order place 0 → i < place
        before i h (inl e) o = absurd (o (ap (λ k. get_or order k 0) e))
        before i h (inr n) o = grind (arith, n)

-- no label is placed at first
pub none_placed : (order ranks : List ℕ) (n : ℕ) → length ranks ≡ n → ArePlaced order ranks n 0
none_placed order ranks n long = record { long = long; placed = λ i h. absurd (omega arith) }

not_less : (a b : Ordering) → a ≡ ordering_reverse b → is_lt a ≡ false → (b ≡ Equal → ⊥) → b ≡ Less
not_less a Less e h n = refl
not_less a Equal e h n = absurd (n refl)
not_less a Greater e h n = let less : a ≡ Less = e in absurd (cc (rw less at h))

turned_less : (a b : Ordering) → a ≡ ordering_reverse b → b ≡ Less → a ≡ Greater
turned_less a b e k = e ∙ ap ordering_reverse k

-- where all labels are placed, each is at its place
placed_at :
    (n : ℕ) (order ranks : List ℕ) → AreLabelsBelow n order → ArePlaced order ranks n (length order) → (f : ℕ) → f < n →
    (get_or ranks f 0 < length order) × (get_or order (get_or ranks f 0) 0 ≡ f)
placed_at n order ranks all p f h =
    let c = all.held f h in
    let e : get_or order c.0 0 ≡ f = read_same order c.0 0 f c.1 ∙ c.2 in
    subst (λ k. (get_or ranks k 0 < length order) × (get_or order (get_or ranks k 0) 0 ≡ k)) e (p.placed c.0 c.1)

-- so each has a place of its own
pub places_apart :
    (labels : List (List ℕ)) (order ranks : List ℕ) → IsTextOrder labels order → ArePlaced order ranks (length labels) (length order) → ArePlaces labels ranks
places_apart labels order ranks t p = record {
  below = λ f h. omega (arith, (stands f h).0, t.all.long);
  apart = λ f g h k e. sym (stands f h).1 ∙ ap (λ x. get_or order x 0) e ∙ (stands g k).1;
}
  where
    stands : (f : ℕ) → f < length labels → (get_or ranks f 0 < length order) × (get_or order (get_or ranks f 0) 0 ≡ f)
    stands f h = placed_at (length labels) order ranks t.all p f h

-- where all labels are placed in the order of texts, their places are their ranks
pub places_rank :
    (labels : List (List ℕ)) (order ranks : List ℕ) → AreDistinct labels → IsTextOrder labels order →
    ArePlaced order ranks (length labels) (length order) → AreRanksOf labels ranks
places_rank labels order ranks distinct t p = record { long = p.long; order = λ f g h k. by f g h k }
  where
    stands : (f : ℕ) → f < length labels → (get_or ranks f 0 < length order) × (get_or order (get_or ranks f 0) 0 ≡ f)
    stands f h = placed_at (length labels) order ranks t.all p f h

    less : (f g : ℕ) → f < length labels → g < length labels → get_or ranks f 0 < get_or ranks g 0 → text_cmp labels f g ≡ Less
    less f g h k l =
        let a = stands f h in
        let b = stands g k in
        let up : is_lt (text_cmp labels (get_or order (get_or ranks g 0) 0) (get_or order (get_or ranks f 0) 0)) ≡ false =
        sorted_far (λ x y. is_lt (text_cmp labels x y)) (ranks_by nat_list_cmp_total (text_at labels)) order t.sorted (get_or ranks f 0) (get_or ranks g 0) 0 (omega (arith, l)) b.0
        in
        let same : is_lt (text_cmp labels g f) ≡ false = subst (λ x. is_lt (text_cmp labels x f) ≡ false) b.1 (subst (λ y. is_lt (text_cmp labels (get_or order (get_or ranks g 0) 0) y) ≡ false) a.1 up) in
        not_less (text_cmp labels g f) (text_cmp labels f g) (nat_list_cmp_total.antisymm (text_at labels g) (text_at labels f)) same
        (λ e.
        let texts : text_at labels f ≡ text_at labels g = slice_cmp-IsAntisymmetric nat_cmp-IsAntisymmetric (text_at labels f) (text_at labels g) e in
        let one : f ≡ g = same_text labels distinct f g h k texts in
        let places : get_or ranks f 0 ≡ get_or ranks g 0 = ap (λ x. get_or ranks x 0) one in
        omega (arith, l, places))

    by : (f g : ℕ) → f < length labels → g < length labels → nat_cmp (get_or ranks f 0) (get_or ranks g 0) ≡ text_cmp labels f g
    by f g h k = elim (three_ways (get_or ranks f 0) (get_or ranks g 0)) [
      | inl l ↦ sym (nat_cmp_is (get_or ranks f 0) (get_or ranks g 0) Less l) ∙ sym (less f g h k l)
      | inr o ↦ elim o [
        | inl e ↦
            let one : f ≡ g = sym (stands f h).1 ∙ ap (λ x. get_or order x 0) e ∙ (stands g k).1 in
            ap (λ x. nat_cmp x (get_or ranks g 0)) e ∙ tied_itself nat_cmp_total (get_or ranks g 0) ∙ sym (ap (λ x. text_cmp labels x g) one ∙ tied_itself nat_list_cmp_total (text_at labels g))
        | inr l ↦
            sym (nat_cmp_is (get_or ranks f 0) (get_or ranks g 0) Greater l)
            ∙ sym (turned_less (text_cmp labels f g) (text_cmp labels g f) (nat_list_cmp_total.antisymm (text_at labels f) (text_at labels g)) (less g f k h l))
      ]
    ]
