-- Costs with their places, sorted.
use Rattle.std.specs.Prelude.{◌≡◌, ◌⊎◌, ℕ, ◌+◌, ◌<◌, nat_eq, Bool, true, false, List, [], ◌∷◌, ◌++◌, length, drop, Contains, IsPermutation, IsSorted, refl}
use Rattle.std.specs.List.{IsDistinct}
use Rattle.std.specs.Ordering.{MatchOrdering, nat_cmp, ordering_then, is_lt}
use Rattle.std.specs.declared.cmp.Ordering.{Ordering}
use Rattle.std.specs.declared.cmp.Ordering.TheVariants.{Less, Equal, Greater}
use Rattle.std.proofs.Common.{zero, suc, arith, ap, sym, ◌∙◌, subst, inl, inr, get_or}
use Rattle.std.proofs.lemmas.Cmp.{ranked}
use Rattle.std.proofs.lemmas.List.Sorted.{ranks_by, sorted_far, Contains-permutation, IsPermutation-sym, length_permutation}
use Rattle.std.proofs.lemmas.Map.Keys.{IsDistinct-IsPermutation, IsDistinct-from_apart, apart_from_distinct}
use Rattle.tib_lex.specs.Lists.{Has}
use Rattle.tib_lex.proofs.Members.{has_at, at_has, has_permuted}
use Rattle.tib_lex.proofs.Numbers.{nat_eq_cases, nat_eq-itself}
use Rattle.tib_lex.proofs.PairOrder.{pair_total}
use Rattle.tib_lex.specs.PairOrder.{pair_cmp}
use Rattle.tib_inside.proofs.Chosen.{ascends_from}
use Rattle.tib_ranked_trees.proofs.Children.{get_or-default}
use Rattle.tib_k_best.specs.Weights.{places_from, AreByCost, AreNumbered}

abbrev same_place : ℕ × ℕ → ℕ × ℕ → Bool
same_place p q = nat_eq p.1 q.1

differ : (a b : ℕ) → (a ≡ b → ⊥) → nat_eq a b ≡ false
differ a b n = elim (nat_eq_cases a b) [ inl k ↦ absurd (n k.0) | inr k ↦ k.1 ]

turned : (a b : ℕ) → nat_eq a b ≡ nat_eq b a
turned a b = elim (nat_eq_cases a b) [
  | inl k ↦ k.1 ∙ sym (subst (λ n. nat_eq b n ≡ true) (sym k.0) (nat_eq-itself b))
  | inr k ↦ k.1 ∙ sym (differ b a (λ e. k.0 (sym e)))
]

in_turn : (x y : ℕ × ℕ) → is_lt (pair_cmp y x) ≡ false → same_place x y ≡ false → (x.0 < y.0) ⊎ ((x.0 ≡ y.0) × (x.1 < y.1))
in_turn x y h n = by (nat_cmp y.0 x.0) (nat_cmp y.1 x.1) (ranked y.0 x.0 (nat_cmp y.0 x.0) refl) (ranked y.1 x.1 (nat_cmp y.1 x.1) refl) h
  where
    other : (x.1 ≡ y.1 → ⊥)
    other e = let t : nat_eq x.1 y.1 ≡ true = subst (λ m. nat_eq x.1 m ≡ true) e (nat_eq-itself x.1) in absurd (cc (t, n))

    by :
        (a b : Ordering) → MatchOrdering a (y.0 < x.0) (y.0 ≡ x.0) (x.0 < y.0) → MatchOrdering b (y.1 < x.1) (y.1 ≡ x.1) (x.1 < y.1) → is_lt (ordering_then a b) ≡ false →
        (x.0 < y.0) ⊎ ((x.0 ≡ y.0) × (x.1 < y.1))
    by Less b r s e = absurd (cc)
    by Equal Less r s e = absurd (cc)
    by Equal Equal r s e = absurd (other (sym s))
    by Equal Greater r s e = inr (sym r, s)
    by Greater b r s e = inl r

-- the numbered costs, sorted
pub by_cost : (ws : List ℕ) (ps now : List (ℕ × ℕ)) → AreNumbered ws (length ws) ps → IsPermutation ps now → IsSorted pair_cmp now → AreByCost ws now
by_cost ws ps now n p s = record {
  long = length_permutation ps now p ∙ n.long;
  sound = λ q h.
      let a = at_has ps q (0, 0) (has_permuted now ps q (IsPermutation-sym ps now p) h) in
      let at : a.0 < length ws = omega (arith, a.1, n.long) in
      let e : (get_or ws a.0 0, a.0) ≡ q = sym (n.each a.0 at) ∙ a.2 in
      subst (λ (z : ℕ × ℕ). (z.1 < length ws) × (get_or ws z.1 0 ≡ z.0)) e (at, refl);
  whole = λ i h. has_permuted ps now (get_or ws i 0, i) p (subst (λ (z : ℕ × ℕ). Has ps z) (n.each i h) (has_at ps i (0, 0) (omega (arith, h, n.long))));
  ascend = ascends_from (λ x y. (x.0 < y.0) ⊎ ((x.0 ≡ y.0) × (x.1 < y.1))) now (0, 0) (λ i j l h.
      in_turn (get_or now i (0, 0)) (get_or now j (0, 0)) (sorted_far (λ x y. is_lt (pair_cmp x y)) (ranks_by pair_total (λ x. x)) now s i j (0, 0) (omega arith) h)
      (apart_from_distinct same_place now i j (0, 0) distinct l h));
}
  where
    place_at : (i : ℕ) (d : ℕ × ℕ) → i < length ps → (get_or ps i d).1 ≡ i
    place_at i d h = ap (λ (z : ℕ × ℕ). z.1) (get_or-default ps i d (0, 0) h ∙ n.each i (omega (arith, h, n.long)))

    distinct : IsDistinct same_place now
    distinct =
        IsDistinct-IsPermutation same_place (λ x y. turned x.1 y.1) ps now p
        (IsDistinct-from_apart same_place ps (λ i j d l h. differ (get_or ps i d).1 (get_or ps j d).1 (λ e. omega (arith, l, e, place_at i d (omega (arith, l, h)), place_at j d h))))

-- one more cost is numbered
pub numbered_more : (ws : List ℕ) (i w : ℕ) → w ≡ get_or ws i w → i < length ws → (ps qs : List (ℕ × ℕ)) → AreNumbered ws i ps → qs ≡ ps ++ (w, i) ∷ [] → AreNumbered ws (i + 1) qs
numbered_more ws i w here inside ps qs n put = subst (AreNumbered ws (i + 1)) (sym put) (record {
  long = length_more ps ∙ ap (λ m. m + 1) n.long;
  each = λ j h. elim (last_or j i h) [
    | inl l ↦ before ps j (omega (arith, l, n.long)) ∙ n.each j l
    | inr e ↦ last ps j (e ∙ sym n.long) ∙ ap (λ m. (m, i)) (here ∙ get_or-default ws i w 0 inside) ∙ ap (λ m. (get_or ws m 0, m)) (sym e)
  ];
})
  where
    last_or : (j m : ℕ) → j < m + 1 → (j < m) ⊎ (j ≡ m)
    last_or j m h = grind arith

    length_more : (rs : List (ℕ × ℕ)) → length (rs ++ (w, i) ∷ []) ≡ length rs + 1
    length_more [] = refl
    length_more (r ∷ rs) = ap suc (length_more rs) ∙ one (length rs)
      where
        one : (m : ℕ) → suc (m + 1) ≡ suc m + 1
        one m = omega arith

    before : (rs : List (ℕ × ℕ)) (j : ℕ) → j < length rs → get_or (rs ++ (w, i) ∷ []) j (0, 0) ≡ get_or rs j (0, 0)
    before [] j h = absurd (omega arith)
    before (r ∷ rs) zero h = refl
    before (r ∷ rs) (suc j) h = before rs j (omega arith)

    last : (rs : List (ℕ × ℕ)) (j : ℕ) → j ≡ length rs → get_or (rs ++ (w, i) ∷ []) j (0, 0) ≡ (w, i)
    last [] zero e = refl
    last [] (suc j) e = absurd (omega (arith, e))
    last (r ∷ rs) zero e = absurd (omega (arith, e))
    last (r ∷ rs) (suc j) e = last rs j (omega (arith, e))

drop_place : (ws : List ℕ) (i w : ℕ) → i < length ws → w ≡ get_or ws i w → drop i ws ≡ w ∷ drop (i + 1) ws
drop_place [] i w h e = absurd (omega arith)
drop_place (x ∷ ws) zero w h e = ap (λ y. y ∷ ws) (sym e)
drop_place (x ∷ ws) (suc i) w h e = let n : suc i + 1 ≡ suc (i + 1) = omega arith in drop_place ws i w (omega arith) e ∙ ap (λ m. w ∷ drop m (x ∷ ws)) (sym n)

moved : (xs : List ℕ) (x : ℕ) (ys : List ℕ) → (xs ++ x ∷ []) ++ ys ≡ xs ++ x ∷ ys
moved [] x ys = refl
moved (z ∷ xs) x ys = ap (λ zs. z ∷ zs) (moved xs x ys)

one_more : (c i w : ℕ) (ws : List ℕ) → w ≡ c → places_from c i (w ∷ ws) ≡ i ∷ places_from c (suc i) ws
one_more c i w ws e = elim (nat_eq_cases w c) [ inl k ↦ rw k.1 refl | inr k ↦ absurd (k.0 e) ]

none_more : (c i w : ℕ) (ws : List ℕ) → (w ≡ c → ⊥) → places_from c i (w ∷ ws) ≡ places_from c (suc i) ws
none_more c i w ws n = elim (nat_eq_cases w c) [ inl k ↦ absurd (n k.0) | inr k ↦ rw k.1 refl ]

-- a place of the cost, or one of another cost
pub place_put :
    (c i w : ℕ) (ws : List ℕ) → i < length ws → w ≡ get_or ws i w → w ≡ c → (ps qs : List ℕ) → qs ≡ ps ++ i ∷ [] → ps ++ places_from c i (drop i ws) ≡ places_from c 0 ws →
    qs ++ places_from c (i + 1) (drop (i + 1) ws) ≡ places_from c 0 ws
place_put c i w ws h at e ps qs put all =
    let n : suc i ≡ i + 1 = omega arith in
    let d : places_from c i (drop i ws) ≡ i ∷ places_from c (i + 1) (drop (i + 1) ws) =
    ap (places_from c i) (drop_place ws i w h at) ∙ one_more c i w (drop (i + 1) ws) e ∙ ap (λ m. i ∷ places_from c m (drop (i + 1) ws)) n in
    ap (λ zs. zs ++ places_from c (i + 1) (drop (i + 1) ws)) put ∙ moved ps i (places_from c (i + 1) (drop (i + 1) ws)) ∙ ap (λ zs. ps ++ zs) (sym d) ∙ all

pub place_skipped :
    (c i w : ℕ) (ws : List ℕ) → i < length ws → w ≡ get_or ws i w → (w ≡ c → ⊥) → (ps : List ℕ) → ps ++ places_from c i (drop i ws) ≡ places_from c 0 ws →
    ps ++ places_from c (i + 1) (drop (i + 1) ws) ≡ places_from c 0 ws
place_skipped c i w ws h at e ps all =
    let n : suc i ≡ i + 1 = omega arith in
    let d : places_from c i (drop i ws) ≡ places_from c (i + 1) (drop (i + 1) ws) =
    ap (places_from c i) (drop_place ws i w h at) ∙ none_more c i w (drop (i + 1) ws) e ∙ ap (λ m. places_from c m (drop (i + 1) ws)) n in
    ap (λ zs. ps ++ zs) (sym d) ∙ all
