-- The positions of an order, sorted by their keys.
use Rattle.std.proofs.Common.{◌≡◌, ℕ, ◌+◌, ◌-◌, ◌<◌, ◌≤◌, List, [], ◌∷◌, length, map, slice_get, refl, ap, sym, ◌∙◌, subst, arith, zero, suc, inl, inr, ◌⊎◌, Bool, true, false, not, Some, true≢false}
use Rattle.std.specs.Prelude.{nat_eq, IsPermutation, IsSorted}
use Rattle.std.specs.Cmp.{IsTotalOrder, bool_cmp_total}
use Rattle.std.specs.Ordering.{nat_cmp, bool_cmp, ordering_then, ordering_reverse, is_lt, is_eq}
use Rattle.std.specs.declared.cmp.Ordering.{Ordering}
use Rattle.std.specs.declared.cmp.Ordering.TheVariants.{Less, Equal, Greater}
use Rattle.std.proofs.lemmas.Bool.Decides.{nat_tests}
use Rattle.std.proofs.lemmas.Cmp.{on_total, then_total, nat_cmp_total}
use Rattle.std.proofs.lemmas.List.{length-map}
use Rattle.std.proofs.lemmas.List.Sorted.{ranks_by, sorted_far, length_permutation, IsPermutation-map, IsPermutation-sym}
use Rattle.tib_lex.specs.Lists.{Has, Ascends, Distinct}
use Rattle.tib_canon.specs.Keys.{marked, StandBefore, AreByKeys}
use Rattle.tib_canon.proofs.Permuting.{has_permuted, distinct_permuted}
use Rattle.tib_lex.proofs.Members.{each_has, each_of}
use Rattle.tib_lex.proofs.Lists.{Ascends-from}

-- a key with its position, and whether it is not the start
abbrev Mark : Type 0 → Type 0
Mark K = Bool × K × ℕ

abbrev pub place_of : {K : Type 0} → Mark K → ℕ
place_of m = m.2

is_start : (p start : ℕ) → p ≡ start → not (nat_eq p start) ≡ false
is_start p start e = grind (arith, nat_tests)

is_other : (p start : ℕ) → (p ≡ start → ⊥) → not (nat_eq p start) ≡ true
is_other p start h = grind (arith, nat_tests)

start_or_other : (p start : ℕ) → (p ≡ start) ⊎ (p ≡ start → ⊥)
start_or_other p start = grind arith

-- what a key at a position is marked with
record IsMark {K : Type 0} (start first : ℕ) (ks : List K) (m : Mark K) : Type 0 where
  least : first ≤ m.2
  below : m.2 < first + length ks
  key : slice_get ks (m.2 - first) ≡ Some m.1
  other : m.0 ≡ not (nat_eq m.2 start)

module _ {K : Type 0} (start : ℕ) where
  marked_is : (first : ℕ) (ks : List K) (m : Mark K) → Has (marked start first ks) m → IsMark start first ks m
  marked_is first [] m h = absurd h
  marked_is first (k ∷ ks) m h = elim h [
    | inl e ↦
        let none : 0 ≡ first - first = omega arith in
        subst (IsMark start first (k ∷ ks)) e (record { least = omega arith; below = omega arith; key = subst (λ i. slice_get (k ∷ ks) i ≡ Some k) none refl; other = refl })
    | inr n ↦
        let a = marked_is (first + 1) ks m n in
        let least = a.least in
        let more : suc (m.2 - (first + 1)) ≡ m.2 - first = omega arith in
        record { least = omega arith; below = omega (arith, a.below); key = subst (λ i. slice_get (k ∷ ks) i ≡ Some m.1) more a.key; other = a.other }
  ]

  length_marked : (first : ℕ) (ks : List K) → length (marked start first ks) ≡ length ks
  length_marked first [] = refl
  length_marked first (k ∷ ks) = ap suc (length_marked (first + 1) ks)

  place_marked : (first : ℕ) (ks : List K) (n : ℕ) → n < length ks → Has (map (λ (m : Mark K). m.2) (marked start first ks)) (first + n)
  place_marked first [] n h = absurd (omega arith)
  place_marked first (k ∷ ks) zero h = inl (omega arith)
  place_marked first (k ∷ ks) (suc n) h =
      let e : (first + 1) + n ≡ first + suc n = omega arith in
      inr (subst (Has (map (λ (m : Mark K). m.2) (marked start (first + 1) ks))) e (place_marked (first + 1) ks n (omega arith)))

  place_within : (first : ℕ) (ks : List K) (p : ℕ) → Has (map (λ (m : Mark K). m.2) (marked start first ks)) p → (first ≤ p) × (p < first + length ks)
  place_within first ks p h =
      let m = has_map' (marked start first ks) h in
      let a = marked_is first ks m.0 m.1 in
      (omega (arith, a.least, m.2), omega (arith, a.below, m.2))
    where
      has_map' : (ms : List (Mark K)) → Has (map (λ (m : Mark K). m.2) ms) p → (m : Mark K) × Has ms m × (m.2 ≡ p)
      has_map' [] h = absurd h
      has_map' (m ∷ ms) h = elim h [ inl e ↦ (m, inl refl, e) | inr k ↦ let r = has_map' ms k in (r.0, inr r.1, r.2) ]

  distinct_marked : (first : ℕ) (ks : List K) → Distinct (map (λ (m : Mark K). m.2) (marked start first ks))
  distinct_marked first [] = tt
  distinct_marked first (k ∷ ks) = (λ h. let w = place_within (first + 1) ks first h in omega (arith, w.0), distinct_marked (first + 1) ks)

module _ {K : Type 0} where
  got_has : (ks : List K) (n : ℕ) (k : K) → slice_get ks n ≡ Some k → Has ks k
  got_has [] n k e = grind (arith, e)
  got_has (x ∷ xs) zero k e = inl (grind (arith, e))
  got_has (x ∷ xs) (suc n) k e = inr (got_has xs n k e)

  same_got : (ks : List K) (n : ℕ) (a b : K) → slice_get ks n ≡ Some a → slice_get ks n ≡ Some b → a ≡ b
  same_got ks n a b e f = let s : Some a ≡ Some b = sym e ∙ f in cc

  -- distinct keys are at one position each
  one_place : (ks : List K) (i j : ℕ) (k : K) → Distinct ks → slice_get ks i ≡ Some k → slice_get ks j ≡ Some k → i ≡ j
  one_place [] i j k d e f = grind (arith, e)
  one_place (x ∷ xs) zero zero k d e f = refl
  one_place (x ∷ xs) zero (suc j) k d e f = let s : k ≡ x = grind (arith, e) in absurd (d.0 (subst (Has xs) s (got_has xs j k f)))
  one_place (x ∷ xs) (suc i) zero k d e f = let s : k ≡ x = grind (arith, f) in absurd (d.0 (subst (Has xs) s (got_has xs i k e)))
  one_place (x ∷ xs) (suc i) (suc j) k d e f = ap suc (one_place xs i j k d.1 e f)

start_is_less : (a b : Bool) (o p : Ordering) → a ≡ false → b ≡ true → is_lt (ordering_then (ordering_then (bool_cmp a b) o) p) ≡ false → ⊥
start_is_less false true o p e f h = true≢false h
start_is_less false false o p e f h = true≢false (sym f)
start_is_less true b o p e f h = true≢false e

by_the_keys : (a b : Bool) (o p : Ordering) → a ≡ true → b ≡ true → is_lt (ordering_then (ordering_then (bool_cmp a b) o) p) ≡ false → is_lt o ≡ false
by_the_keys true true Less p e f h = h
by_the_keys true true Equal p e f h = refl
by_the_keys true true Greater p e f h = refl
by_the_keys true false o p e f h = absurd (true≢false (sym f))
by_the_keys false b o p e f h = absurd (true≢false (sym e))

-- all positions of the order, each once, ascending by their keys
pub record AreAllByKeys {K : Type 0} (cmp : K → K → Ordering) (order : List K) (places : List ℕ) : Type 0 where
  pub ascend : Ascends (StandBefore cmp order) places
  pub all : (p : ℕ) → (Has places p → p < length order) × (p < length order → Has places p)
  pub once : Distinct places
  pub many : length places ≡ length order

less_turned : (o p : Ordering) → o ≡ ordering_reverse p → is_lt p ≡ false → (is_eq p ≡ true → ⊥) → o ≡ Less
less_turned o Less e h n = absurd (true≢false h)
less_turned o Equal e h n = absurd (n refl)
less_turned o Greater e h n = e

module _ {K : Type 0} (cmp : K → K → Ordering) (total : IsTotalOrder cmp) (eq : K → K → Bool) (same : (x y : K) → eq x y ≡ true → x ≡ y) (matches : (x y : K) → eq x y ≡ is_eq (cmp x y)) where
  -- the start comes first, and the others by their keys
  abbrev pub mark_cmp : Mark K → Mark K → Ordering
  mark_cmp x y = ordering_then (ordering_then (bool_cmp x.0 y.0) (cmp x.1 y.1)) (nat_cmp x.2 y.2)

  abbrev NotAbove : Mark K → Mark K → Type 0
  NotAbove x y = is_lt (mark_cmp y x) ≡ false

  mark_total : IsTotalOrder mark_cmp
  mark_total = then_total (then_total (on_total (λ (m : Mark K). m.0) bool_cmp_total) (on_total (λ (m : Mark K). m.1) total)) (on_total (λ (m : Mark K). m.2) nat_cmp_total)

  marks_ascend : (ms : List (Mark K)) → IsSorted mark_cmp ms → Ascends NotAbove ms
  marks_ascend [] s = tt
  marks_ascend (m ∷ ms) s =
      Ascends-from NotAbove (m ∷ ms) m (λ i j h k. sorted_far (λ x y. is_lt (mark_cmp x y)) (ranks_by mark_total (λ x. x)) (m ∷ ms) s i j m (omega arith) k)

  module _ (order : List K) (start : ℕ) (apart : Distinct order) where
    key_of : (m : Mark K) → IsMark start 0 order m → slice_get order m.2 ≡ Some m.1
    key_of m a = let e : m.2 - 0 ≡ m.2 = omega arith in subst (λ i. slice_get order i ≡ Some m.1) e a.key

    -- two others in order are before each other by their keys
    before : (x y : Mark K) → IsMark start 0 order x → IsMark start 0 order y → (x.2 ≡ start → ⊥) → (y.2 ≡ start → ⊥) → (x.2 ≡ y.2 → ⊥) → NotAbove x y → StandBefore cmp order x.2 y.2
    before x y a b other_x other_y differ h v w at_v at_w =
        let less : is_lt (cmp y.1 x.1) ≡ false =
        by_the_keys y.0 x.0 (cmp y.1 x.1) (nat_cmp y.2 x.2) (b.other ∙ is_other y.2 start other_y) (a.other ∙ is_other x.2 start other_x) h in
        let found : cmp x.1 y.1 ≡ Less =
        less_turned (cmp x.1 y.1) (cmp y.1 x.1) (total.antisymm x.1 y.1) less (λ e.
        let alike : y.1 ≡ x.1 = same y.1 x.1 (matches y.1 x.1 ∙ e) in
        differ (one_place order x.2 y.2 x.1 apart (key_of x a) (key_of y b ∙ ap (λ (z : K). Some z) alike))) in
        let first : x.1 ≡ v = same_got order x.2 x.1 v (key_of x a) at_v in
        let second : y.1 ≡ w = same_got order y.2 y.1 w (key_of y b) at_w in
        subst (λ (z : K). cmp z w ≡ Less) first (subst (λ (z : K). cmp x.1 z ≡ Less) second found)

    of_place : (ms : List (Mark K)) (p : ℕ) → Has (map (λ (m : Mark K). m.2) ms) p → (m : Mark K) × Has ms m × (m.2 ≡ p)
    of_place [] p h = absurd h
    of_place (m ∷ ms) p h = elim h [ inl e ↦ (m, inl refl, e) | inr k ↦ let r = of_place ms p k in (r.0, inr r.1, r.2) ]

    place_in : (ms : List (Mark K)) (m : Mark K) → Has ms m → Has (map (λ (m : Mark K). m.2) ms) m.2
    place_in [] m h = absurd h
    place_in (n ∷ ms) m h = elim h [ inl e ↦ inl (ap (λ (z : Mark K). z.2) e) | inr k ↦ inr (place_in ms m k) ]

    others_ascend :
        (ms : List (Mark K)) → ((m : Mark K) → Has ms m → IsMark start 0 order m) → ((m : Mark K) → Has ms m → m.2 ≡ start → ⊥) → Distinct (map (λ (m : Mark K). m.2) ms) → Ascends NotAbove ms →
        Ascends (StandBefore cmp order) (map (λ (m : Mark K). m.2) ms)
    others_ascend [] are others once up = tt
    others_ascend (x ∷ xs) are others once up = (
      each_of (StandBefore cmp order x.2) (map (λ (m : Mark K). m.2) xs) (λ p h.
          let y = of_place xs p h in
          subst (StandBefore cmp order x.2) y.2
          (before x y.0 (are x (inl refl)) (are y.0 (inr y.1)) (others x (inl refl)) (others y.0 (inr y.1)) (λ e. once.0 (subst (Has (map (λ (m : Mark K). m.2) xs)) (sym e) (place_in xs y.0 y.1)))
          (each_has (NotAbove x) xs y.0 up.0 y.1))),
      others_ascend xs (λ m h. are m (inr h)) (λ m h. others m (inr h)) once.1 up.1,
    )

    module _ (now : List (Mark K)) (permuted : IsPermutation (marked start 0 order) now) (sorted : IsSorted mark_cmp now) where
      places_permuted : IsPermutation (map (λ (m : Mark K). m.2) (marked start 0 order)) (map (λ (m : Mark K). m.2) now)
      places_permuted = IsPermutation-map (λ (m : Mark K). m.2) (marked start 0 order) now permuted

      are_marks : (m : Mark K) → Has now m → IsMark start 0 order m
      are_marks m h = marked_is start 0 order m (has_permuted now (marked start 0 order) m (IsPermutation-sym (marked start 0 order) now permuted) h)

      places_once : Distinct (map (λ (m : Mark K). m.2) now)
      places_once = distinct_permuted (map (λ (m : Mark K). m.2) (marked start 0 order)) (map (λ (m : Mark K). m.2) now) places_permuted (distinct_marked start 0 order)

      places_all : (p : ℕ) → (Has (map (λ (m : Mark K). m.2) now) p → p < length order) × (p < length order → Has (map (λ (m : Mark K). m.2) now) p)
      places_all p = (
        λ h. omega (arith, (place_within start 0 order p (has_permuted (map (λ (m : Mark K). m.2) now) (map (λ (m : Mark K). m.2) (marked start 0 order)) p (IsPermutation-sym (map (λ (m : Mark K). m.2) (marked start 0 order)) (map (λ (m : Mark K). m.2) now) places_permuted) h)).1),
        λ h.
            let e : 0 + p ≡ p = omega arith in
            has_permuted (map (λ (m : Mark K). m.2) (marked start 0 order)) (map (λ (m : Mark K). m.2) now) p places_permuted (subst (Has (map (λ (m : Mark K). m.2) (marked start 0 order))) e (place_marked start 0 order p h)),
      )

      places_many : length (map (λ (m : Mark K). m.2) now) ≡ length order
      places_many = length-map now (λ (m : Mark K). m.2) ∙ length_permutation (marked start 0 order) now permuted ∙ length_marked start 0 order

      first_is : start < length order → (m : Mark K) (ms : List (Mark K)) → now ≡ m ∷ ms → m.2 ≡ start
      first_is within m ms e =
          let s = of_place now start ((places_all start).1 within) in
          let up : Ascends NotAbove (m ∷ ms) = subst (Ascends NotAbove) e (marks_ascend now sorted) in
          let own : IsMark start 0 order m = are_marks m (subst (λ (l : List (Mark K)). Has l m) (sym e) (inl refl)) in
          let its : IsMark start 0 order s.0 = are_marks s.0 s.1 in
          let stands : Has (m ∷ ms) s.0 = subst (λ (l : List (Mark K)). Has l s.0) e s.1 in
          elim stands [
            | inl k ↦ ap (λ (z : Mark K). z.2) k ∙ s.2
            | inr k ↦ elim (start_or_other m.2 start) [
              | inl h ↦ h
              | inr h ↦
                  absurd (start_is_less s.0.0 m.0 (cmp s.0.1 m.1) (nat_cmp s.0.2 m.2) (its.other ∙ is_start s.0.2 start s.2) (own.other ∙ is_other m.2 start h) (each_has (NotAbove m) ms s.0 up.0 k))
            ]
          ]

      -- the positions by their keys
      begun_by : start < length order → (m : Mark K) (ms : List (Mark K)) → now ≡ m ∷ ms → AreByKeys cmp order start (map (λ (m : Mark K). m.2) now)
      begun_by within m ms e =
          let first : m.2 ≡ start = first_is within m ms e in
          let once : Distinct (map (λ (m : Mark K). m.2) (m ∷ ms)) = subst (λ (l : List (Mark K)). Distinct (map (λ (m : Mark K). m.2) l)) e places_once in
          let up : Ascends NotAbove (m ∷ ms) = subst (Ascends NotAbove) e (marks_ascend now sorted) in
          record {
            others = map (λ (m : Mark K). m.2) ms;
            first = ap (map (λ (m : Mark K). m.2)) e ∙ ap (λ (s : ℕ). s ∷ map (λ (m : Mark K). m.2) ms) first;
            ascend = others_ascend ms (λ n h. are_marks n (subst (λ (l : List (Mark K)). Has l n) (sym e) (inr h))) (λ n h s. once.0 (subst (Has (map (λ (m : Mark K). m.2) ms)) (s ∙ sym first) (place_in ms n h))) once.1 up.1;
            all = places_all;
            once = places_once;
            many = places_many;
          }

      by_keys : start < length order → (ms : List (Mark K)) → ms ≡ now → AreByKeys cmp order start (map (λ (m : Mark K). m.2) now)
      by_keys within [] e = let none : 0 ≡ length order = ap (λ (l : List (Mark K)). length (map (λ (m : Mark K). m.2) l)) e ∙ places_many in absurd (omega arith)
      by_keys within (m ∷ ms) e = begun_by within m ms (sym e)

      -- where no key is the start, all positions ascend by their keys
      all_ascend : length order ≤ start → Ascends (StandBefore cmp order) (map (λ (m : Mark K). m.2) now)
      all_ascend outside = others_ascend now are_marks (λ m h e. let low = (are_marks m h).below in omega (arith, low, outside, e)) places_once (marks_ascend now sorted)

    pub sorted_by_keys :
        start < length order → (marks now : List (Mark K)) → marks ≡ marked start 0 order → IsPermutation marks now → IsSorted mark_cmp now → (part : List (Mark K)) → part ≡ now → (states : List ℕ) →
        states ≡ map (λ (m : Mark K). m.2) part → AreByKeys cmp order start states
    sorted_by_keys within marks now e p s part f states k =
        subst (AreByKeys cmp order start) (sym (k ∙ ap (map (λ (m : Mark K). m.2)) f)) (by_keys now (subst (λ (l : List (Mark K)). IsPermutation l now) e p) s within now refl)

    -- the marks are of positions of the order
    pub sorted_below : (marks now : List (Mark K)) → marks ≡ marked start 0 order → IsPermutation marks now → (m : Mark K) → Has now m → m.2 < length order
    sorted_below marks now e p m h =
        let a = marked_is start 0 order m (has_permuted now (marked start 0 order) m (IsPermutation-sym (marked start 0 order) now (subst (λ (l : List (Mark K)). IsPermutation l now) e p)) h) in
        omega (arith, a.below)

    pub sorted_many : (marks now : List (Mark K)) → marks ≡ marked start 0 order → IsPermutation marks now → length now ≡ length order
    sorted_many marks now e p = length_permutation marks now p ∙ ap length e ∙ length_marked start 0 order

    -- all positions, where no key is the start
    pub sorted_all : (marks now : List (Mark K)) → marks ≡ marked start 0 order → IsPermutation marks now → IsSorted mark_cmp now → length order ≤ start → AreAllByKeys cmp order (map (λ (m : Mark K). m.2) now)
    sorted_all marks now e p s outside =
        let permuted : IsPermutation (marked start 0 order) now = subst (λ (l : List (Mark K)). IsPermutation l now) e p in
        record { ascend = all_ascend now permuted s outside; all = places_all now permuted s; once = places_once now permuted s; many = places_many now permuted s }
