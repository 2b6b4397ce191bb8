-- Places in a list that is cut.
use Rattle.std.specs.Prelude.{◌≡◌, ℕ, ◌+◌, ◌<◌, ◌≤◌, Bool, true, false, if◌then◌else◌, List, [], ◌∷◌, length, take, refl}
use Rattle.std.proofs.Common.{zero, suc, arith, ap, ◌∙◌, get_or}
use Rattle.tib_key_edges.specs.Places.{places_from}
use Rattle.tib_determinize.specs.Alive.{AreAscending}

-- without the first place
shift_before : (k n c : ℕ) (rest : List ℕ) → ((i : ℕ) → i < suc c → get_or (k ∷ rest) i 0 < k + suc n) → (i : ℕ) → i < c → get_or rest i 0 < suc k + n
shift_before k n c rest h i low = let b : get_or rest i 0 < k + suc n = h (suc i) (omega (arith, low)) in omega (arith, b)

shift_behind :
    (k n c : ℕ) (rest : List ℕ) → ((i : ℕ) → suc c ≤ i → i < length (k ∷ rest) → k + suc n ≤ get_or (k ∷ rest) i 0) → (i : ℕ) → c ≤ i → i < length rest → suc k + n ≤ get_or rest i 0
shift_behind k n c rest h i low high = let b : k + suc n ≤ get_or rest i 0 = h (suc i) (omega (arith, low)) (omega (arith, high)) in omega (arith, b)

same_before : (k n c : ℕ) (rest : List ℕ) → ((i : ℕ) → i < c → get_or rest i 0 < k + suc n) → (i : ℕ) → i < c → get_or rest i 0 < suc k + n
same_before k n c rest h i low = let b = h i low in omega (arith, b)

same_behind : (k n c : ℕ) (rest : List ℕ) → ((i : ℕ) → c ≤ i → i < length rest → k + suc n ≤ get_or rest i 0) → (i : ℕ) → c ≤ i → i < length rest → suc k + n ≤ get_or rest i 0
same_behind k n c rest h i low high = let b = h i low high in omega (arith, b)

cons_ascend : (k : ℕ) (rest : List ℕ) → ((j : ℕ) → j < length rest → suc k ≤ get_or rest j 0) → AreAscending rest → AreAscending (k ∷ rest)
cons_ascend k rest least up i zero low high = absurd (omega (arith, low))
cons_ascend k rest least up zero (suc m) low high = let r : suc k ≤ get_or rest m 0 = least m (omega (arith, high)) in omega (arith, r)
cons_ascend k rest least up (suc i) (suc m) low high = up i m (omega (arith, low)) (omega (arith, high))

module _ {A : Type 0} (test : A → Bool) where
  -- no place is before the first
  least_place : (k : ℕ) (xs : List A) (i : ℕ) → i < length (places_from k test xs) → k ≤ get_or (places_from k test xs) i 0
  least_place k [] i low = absurd (omega (arith, low))
  least_place k (x ∷ xs) i low = by (test x) (λ j l. least_place (suc k) xs j l) i low
    where
      by :
          (b : Bool) → ((j : ℕ) → j < length (places_from (suc k) test xs) → suc k ≤ get_or (places_from (suc k) test xs) j 0) → (i : ℕ) →
          i < length (if b then k ∷ places_from (suc k) test xs else places_from (suc k) test xs) → k ≤ get_or (if b then k ∷ places_from (suc k) test xs else places_from (suc k) test xs) i 0
      by true later zero low = omega arith
      by true later (suc i) low = let r : suc k ≤ get_or (places_from (suc k) test xs) i 0 = later i (omega (arith, low)) in omega (arith, r)
      by false later i low = let r : suc k ≤ get_or (places_from (suc k) test xs) i 0 = later i low in omega (arith, r)

  -- places ascend
  pub places_ascend : (k : ℕ) (xs : List A) → AreAscending (places_from k test xs)
  places_ascend k [] = λ i m low high. absurd (omega (arith, high))
  places_ascend k (x ∷ xs) = by (test x) (places_ascend (suc k) xs)
    where
      by : (b : Bool) → AreAscending (places_from (suc k) test xs) → AreAscending (if b then k ∷ places_from (suc k) test xs else places_from (suc k) test xs)
      by false up = up
      by true up = cons_ascend k (places_from (suc k) test xs) (λ j l. least_place (suc k) xs j l) up

  -- as many of the places as are before a number are those of the list that is cut there
  pub places_cut :
      (k n c : ℕ) (xs : List A) → ((i : ℕ) → i < c → get_or (places_from k test xs) i 0 < k + n) → ((i : ℕ) → c ≤ i → i < length (places_from k test xs) → k + n ≤ get_or (places_from k test xs) i 0) →
      c ≤ length (places_from k test xs) → take c (places_from k test xs) ≡ places_from k test (take n xs)
  places_cut k zero zero [] before behind few = refl
  places_cut k (suc n) zero [] before behind few = refl
  places_cut k n (suc c) [] before behind few = absurd (omega (arith, few))
  places_cut k zero zero (x ∷ xs) before behind few = refl
  places_cut k zero (suc c) (x ∷ xs) before behind few =
      let b = before 0 (omega arith) in
      let l = least_place k (x ∷ xs) 0 (omega (arith, few)) in
      absurd (omega (arith, b, l))
  places_cut k (suc n) c (x ∷ xs) before behind few = by (test x) (λ d b h f. places_cut (suc k) n d xs b h f) c before behind few
    where
      by :
          (b : Bool) →
          ((d : ℕ) → ((i : ℕ) → i < d → get_or (places_from (suc k) test xs) i 0 < suc k + n) → ((i : ℕ) → d ≤ i → i < length (places_from (suc k) test xs) → suc k + n ≤ get_or (places_from (suc k) test xs) i 0) →
          d ≤ length (places_from (suc k) test xs) → take d (places_from (suc k) test xs) ≡ places_from (suc k) test (take n xs)) →
          (c : ℕ) → ((i : ℕ) → i < c → get_or (if b then k ∷ places_from (suc k) test xs else places_from (suc k) test xs) i 0 < k + suc n) →
          ((i : ℕ) → c ≤ i → i < length (if b then k ∷ places_from (suc k) test xs else places_from (suc k) test xs) → k + suc n ≤ get_or (if b then k ∷ places_from (suc k) test xs else places_from (suc k) test xs) i 0) →
          c ≤ length (if b then k ∷ places_from (suc k) test xs else places_from (suc k) test xs) →
          take c (if b then k ∷ places_from (suc k) test xs else places_from (suc k) test xs) ≡ (if b then k ∷ places_from (suc k) test (take n xs) else places_from (suc k) test (take n xs))
      by true more zero before behind few = let l : k + suc n ≤ k = behind 0 (omega arith) (omega arith) in absurd (omega (arith, l))
      by true more (suc c) before behind few =
          ap (λ (ps : List ℕ). k ∷ ps) (more c (shift_before k n c (places_from (suc k) test xs) before) (shift_behind k n c (places_from (suc k) test xs) behind) (omega (arith, few)))
      by false more c before behind few = more c (same_before k n c (places_from (suc k) test xs) before) (same_behind k n c (places_from (suc k) test xs) behind) few

  pub places_below :
      (n c : ℕ) (xs : List A) (ps : List ℕ) → ps ≡ places_from 0 test xs → ((i : ℕ) → i < c → get_or ps i 0 < n) → ((i : ℕ) → c ≤ i → i < length ps → n ≤ get_or ps i 0) →
      c ≤ length ps → take c ps ≡ places_from 0 test (take n xs)
  places_below n c xs ps is before behind few =
      ap (take c) is
      ∙ places_cut 0 n c xs (λ i low. let b = before i low in let e = ap (λ (qs : List ℕ). get_or qs i 0) is in omega (arith, b, e))
      (λ i low high. let l = ap length is in let b = behind i low (omega (arith, high, l)) in let e = ap (λ (qs : List ℕ). get_or qs i 0) is in omega (arith, b, e))
      (let l = ap length is in omega (arith, few, l))
