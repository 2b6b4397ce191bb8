-- The places of the values that pass a test, value by value.
use Rattle.std.specs.Prelude.{All, ◌≡◌, ℕ, ◌+◌, ◌<◌, Bool, true, false, List, [], ◌∷◌, ◌++◌, length, take, if◌then◌else◌, refl}
use Rattle.std.proofs.Common.{zero, suc, ap, sym, ◌∙◌, subst, arith, add-zero, add-one, get_or, inl, inr}
use Rattle.tib_lex.specs.Lists.{Has, Distinct}
use Rattle.tib_lex.proofs.Places.{index_get}
use Rattle.tib_key_edges.specs.Places.{places_from}

module _ {A : Type 0} (test : A → Bool) where
  -- one more value
  pub places-more :
      (xs : List A) (k i : ℕ) (d : A) → i < length xs →
      places_from k test (take (suc i) xs) ≡ (if test (get_or xs i d) then places_from k test (take i xs) ++ (k + i) ∷ [] else places_from k test (take i xs))
  places-more [] k i d h = absurd (omega arith)
  places-more (x ∷ xs) k zero d h = rw (add-zero k) (by_case (test x))
    where
      by_case : (b : Bool) → (if b then k ∷ [] else []) ≡ (if b then [] ++ k ∷ [] else [])
      by_case true = refl
      by_case false = refl
  places-more (x ∷ xs) k (suc i) d h =
      let e : suc k + i ≡ k + suc i = omega arith in
      rw (← e, places-more xs (suc k) i d (omega arith)) (by_case (test x) (test (get_or xs i d)) (places_from (suc k) test (take i xs)))
    where
      by_case :
          (b a : Bool) (ys : List ℕ) →
          (if b then k ∷ (if a then ys ++ (suc k + i) ∷ [] else ys) else (if a then ys ++ (suc k + i) ∷ [] else ys))
          ≡ (if a then (if b then k ∷ ys else ys) ++ (suc k + i) ∷ [] else (if b then k ∷ ys else ys))
      by_case true true ys = refl
      by_case true false ys = refl
      by_case false true ys = refl
      by_case false false ys = refl

  -- a list that had those of the first values, and has one more place where the next value is one
  pub places-one :
      (xs : List A) (i : ℕ) (d : A) → i < length xs → (b : Bool) (x : A) → x ≡ get_or xs i d → test x ≡ b → (before after : List ℕ) →
      before ≡ places_from 0 test (take i xs) → after ≡ (if b then before ++ i ∷ [] else before) → after ≡ places_from 0 test (take (i + 1) xs)
  places-one xs i d h b x at over before after e k =
      let same : test (get_or xs i d) ≡ b = ap test (sym at) ∙ over in
      let zero_first : 0 + i ≡ i = omega arith in
      k ∙ rw (e, ← same) (ap (λ j. if test (get_or xs i d) then places_from 0 test (take i xs) ++ j ∷ [] else places_from 0 test (take i xs)) (sym zero_first))
      ∙ sym (places-more xs 0 i d h) ∙ ap (λ j. places_from 0 test (take j xs)) (sym (add-one i))

  -- m, counted from k, is the place of a value that passes
  abbrev pub IsOne : ℕ → List A → ℕ → A → Type 0
  IsOne k xs m d = (i : ℕ) × (m ≡ k + i) × (i < length xs) × (test (get_or xs i d) ≡ true)

  later : (k : ℕ) (x : A) (xs : List A) (m : ℕ) (d : A) → IsOne (suc k) xs m d → IsOne k (x ∷ xs) m d
  later k x xs m d y = (suc y.0, omega (arith, y.1), omega (arith, y.2), y.3)

  -- each place of the list is that of a value that passes
  pub places_are : (k : ℕ) (xs : List A) (m : ℕ) (d : A) → Has (places_from k test xs) m → IsOne k xs m d
  places_are k [] m d h = absurd h
  places_are k (x ∷ xs) m d h = by (λ z. later k x xs m d (places_are (suc k) xs m d z)) (test x) refl h
    where
      by :
          (Has (places_from (suc k) test xs) m → IsOne k (x ∷ xs) m d) → (b : Bool) → test x ≡ b → Has (if b then k ∷ places_from (suc k) test xs else places_from (suc k) test xs) m →
          IsOne k (x ∷ xs) m d
      by more true e n = elim n [ inl at ↦ (0, omega (arith, at), omega arith, e) | inr z ↦ more z ]
      by more false e n = more n

  -- and each such place is in it
  are_places : (k : ℕ) (xs : List A) (i : ℕ) (d : A) → i < length xs → test (get_or xs i d) ≡ true → Has (places_from k test xs) (k + i)
  are_places k [] i d h e = absurd (omega arith)
  are_places k (x ∷ xs) zero d h e = rw e (inl (omega arith))
  are_places k (x ∷ xs) (suc i) d h e =
      let at : suc k + i ≡ k + suc i = omega arith in
      by (test x) (subst (Has (places_from (suc k) test xs)) at (are_places (suc k) xs i d (omega arith) e))
    where
      by : (b : Bool) → Has (places_from (suc k) test xs) (k + suc i) → Has (if b then k ∷ places_from (suc k) test xs else places_from (suc k) test xs) (k + suc i)
      by true n = inr n
      by false n = n

  -- each once
  places_distinct : (k : ℕ) (xs : List A) (d : A) → Distinct (places_from k test xs)
  places_distinct k [] d = tt
  places_distinct k (x ∷ xs) d = by (places_distinct (suc k) xs d) (test x)
    where
      by : Distinct (places_from (suc k) test xs) → (b : Bool) → Distinct (if b then k ∷ places_from (suc k) test xs else places_from (suc k) test xs)
      by more true = (λ h. let y = places_are (suc k) xs k d h in absurd (omega (arith, y.1)), more)
      by more false = more

  pub places_once : (xs : List A) (d : A) → Distinct (places_from 0 test xs)
  places_once xs d = places_distinct 0 xs d

  pub place_is : (xs : List A) (m : ℕ) (d : A) → Has (places_from 0 test xs) m → (m < length xs) × (test (get_or xs m d) ≡ true)
  place_is xs m d h =
      let y = places_are 0 xs m d h in
      let at : y.0 ≡ m = omega (arith, y.1) in
      subst (λ i. (i < length xs) × (test (get_or xs i d) ≡ true)) at (y.2, y.3)

  pub is_place : (xs : List A) (m : ℕ) (d : A) → m < length xs → test (get_or xs m d) ≡ true → Has (places_from 0 test xs) m
  is_place xs m d h e = let at : 0 + m ≡ m = omega arith in subst (Has (places_from 0 test xs)) at (are_places 0 xs m d h e)

-- what holds at each place, read with one default, holds of all
pub all_from : {A : Type 0} (P : A → Type 0) (xs : List A) (c : A) → ((n : ℕ) → n < length xs → P (get_or xs n c)) → All P xs
all_from P xs c h k d low = subst P (sym (index_get xs k d c low)) (h k low)
