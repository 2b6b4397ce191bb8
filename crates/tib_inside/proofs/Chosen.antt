-- Numbers that a test holds of, and lists that ascend.
use Rattle.std.specs.Prelude.{◌≡◌, ℕ, ◌<◌, ◌≤◌, ◌⊎◌, List, [], ◌∷◌, ◌++◌, length, Bool, true, false, refl, if◌then◌else◌}
use Rattle.std.proofs.Common.{zero, suc, arith, ap, sym, ◌∙◌, subst, inl, inr, get_or, length-append}
use Rattle.tib_lex.specs.Lists.{Has, Distinct, Ascends}
use Rattle.tib_grammar.proofs.Members.{has_at, at_has, has_left, has_right, has_either, each_has, each_of}
use Rattle.tib_inside.specs.Reaching.{chosen}
use Rattle.tib_inside.specs.Renaming.{AscendsByPlace}
use Rattle.tib_lex.proofs.Booleans.{bool_cases}
use Rattle.tib_grammar.specs.Range.{AreBelow}
pub use Rattle.tib_lex.proofs.Lists.{has_mapped as has_map}

-- a number is chosen
pub record IsChosen (test : ℕ → Bool) (k n : ℕ) : Type 0 where
  pub below : n < k
  pub holds : test n ≡ true

pub chosen_has : (test : ℕ → Bool) (k n : ℕ) → Has (chosen test k) n → IsChosen test k n
chosen_has test zero n h = absurd h
chosen_has test (suc k) n h = elim (bool_cases (test k)) [
  | inl t ↦
      let h' : Has (chosen test k ++ k ∷ []) n = subst (λ b. Has (if b then chosen test k ++ k ∷ [] else chosen test k) n) t h in
      elim (has_either (chosen test k) (k ∷ []) n h') [
        | inl l ↦ let c = chosen_has test k n l in record { below = omega (arith, c.below); holds = c.holds }
        | inr r ↦ elim r [ inl e ↦ record { below = omega arith; holds = ap test (sym e) ∙ t } | inr f ↦ absurd f ]
      ]
  | inr f ↦
      let h' : Has (chosen test k) n = subst (λ b. Has (if b then chosen test k ++ k ∷ [] else chosen test k) n) f h in
      let c = chosen_has test k n h' in
      record { below = omega (arith, c.below); holds = c.holds }
]

pub chosen_of : (test : ℕ → Bool) (k n : ℕ) → n < k → test n ≡ true → Has (chosen test k) n
chosen_of test zero n h t = absurd (omega arith)
chosen_of test (suc k) n h t = elim (bool_cases (test k)) [
  | inl s ↦ subst (λ b. Has (if b then chosen test k ++ k ∷ [] else chosen test k) n) (sym s) (elim (last n k (omega arith)) [
    | inl l ↦ has_left (chosen test k) (k ∷ []) n (chosen_of test k n l t)
    | inr e ↦ has_right (chosen test k) (k ∷ []) n (inl (sym e))
  ])
  | inr s ↦ subst (λ b. Has (if b then chosen test k ++ k ∷ [] else chosen test k) n) (sym s) (elim (last n k (omega arith)) [
    | inl l ↦ chosen_of test k n l t
    | inr e ↦ let bad : true ≡ false = sym t ∙ ap test e ∙ s in absurd (cc bad)
  ])
]
  where
    last : (n k : ℕ) → n ≤ k → (n < k) ⊎ (n ≡ k)
    last n k h = grind arith

ascends_more : (xs : List ℕ) (y : ℕ) → Ascends ◌<◌ xs → ((x : ℕ) → Has xs x → x < y) → Ascends ◌<◌ (xs ++ y ∷ [])
ascends_more [] y a h = (tt, tt)
ascends_more (x ∷ xs) y a h = (
  each_of (λ z. x < z) (xs ++ y ∷ []) (λ z k. elim (has_either xs (y ∷ []) z k) [
    | inl l ↦ each_has (λ z. x < z) xs z a.0 l
    | inr r ↦ elim r [ inl e ↦ subst (λ w. x < w) e (h x (inl refl)) | inr f ↦ absurd f ]
  ]),
  ascends_more xs y a.1 (λ z k. h z (inr k)),
)

pub chosen_ascends : (test : ℕ → Bool) (k : ℕ) → Ascends ◌<◌ (chosen test k)
chosen_ascends test zero = tt
chosen_ascends test (suc k) = elim (bool_cases (test k)) [
  | inl t ↦ subst (λ b. Ascends ◌<◌ (if b then chosen test k ++ k ∷ [] else chosen test k)) (sym t) (ascends_more (chosen test k) k (chosen_ascends test k) (λ n h. (chosen_has test k n h).below))
  | inr f ↦ subst (λ b. Ascends ◌<◌ (if b then chosen test k ++ k ∷ [] else chosen test k)) (sym f) (chosen_ascends test k)
]

chosen_length : (test : ℕ → Bool) (k : ℕ) → length (chosen test k) ≤ k
chosen_length test zero = omega arith
chosen_length test (suc k) = elim (bool_cases (test k)) [
  | inl t ↦ subst (λ b. length (if b then chosen test k ++ k ∷ [] else chosen test k) ≤ suc k) (sym t) (omega (arith, length-append (chosen test k) (k ∷ []), chosen_length test k))
  | inr f ↦ subst (λ b. length (if b then chosen test k ++ k ∷ [] else chosen test k) ≤ suc k) (sym f) (omega (arith, chosen_length test k))
]

pub chosen_most : (test : ℕ → Bool) (k n : ℕ) (xs : List ℕ) → xs ≡ chosen test k → k ≡ n → length xs ≤ n
chosen_most test k n xs e h = omega (arith, ap length e, chosen_length test k)

pub chosen_below : (test : ℕ → Bool) (k n : ℕ) (xs : List ℕ) → xs ≡ chosen test k → k ≡ n → AreBelow n xs
chosen_below test k n xs e s i h =
    let c = chosen_has test k (get_or xs i 0) (subst (λ ys. Has ys (get_or xs i 0)) e (has_at xs i 0 h)) in omega (arith, c.below)

pub ascends_at : {A : Type 0} (R : A → A → Type 0) (xs : List A) (d : A) → Ascends R xs → (i j : ℕ) → i < j → j < length xs → R (get_or xs i d) (get_or xs j d)
ascends_at R [] d a i j h b = absurd (omega arith)
ascends_at R (x ∷ xs) d a zero zero h b = absurd (omega arith)
ascends_at R (x ∷ xs) d a zero (suc j) h b = each_has (R x) xs (get_or xs j d) a.0 (has_at xs j d (omega arith))
ascends_at R (x ∷ xs) d a (suc i) zero h b = absurd (omega arith)
ascends_at R (x ∷ xs) d a (suc i) (suc j) h b = ascends_at R xs d a.1 i j (omega arith) (omega arith)

pub ascends_from : {A : Type 0} (R : A → A → Type 0) (xs : List A) (d : A) → ((i j : ℕ) → i < j → j < length xs → R (get_or xs i d) (get_or xs j d)) → Ascends R xs
ascends_from R [] d h = tt
ascends_from R (x ∷ xs) d h = (
  each_of (R x) xs (λ y k. let at = at_has xs y d k in subst (R x) at.2 (h 0 (suc at.0) (omega arith) (omega (arith, at.1)))),
  ascends_from R xs d (λ i j k b. h (suc i) (suc j) (omega arith) (omega arith)),
)

pub chosen_by_place : (test : ℕ → Bool) (k : ℕ) (xs : List ℕ) → xs ≡ chosen test k → AscendsByPlace xs
chosen_by_place test k xs e = ascends_at ◌<◌ xs 0 (subst (Ascends ◌<◌) (sym e) (chosen_ascends test k))

-- in a list without repetition no value is at two indices
pub distinct_at : {A : Type 0} (xs : List A) (i j : ℕ) (d : A) → Distinct xs → i < length xs → j < length xs → get_or xs i d ≡ get_or xs j d → i ≡ j
distinct_at [] i j d a h k e = absurd (omega arith)
distinct_at (x ∷ xs) zero zero d a h k e = refl
distinct_at (x ∷ xs) zero (suc j) d a h k e = absurd (a.0 (subst (Has xs) (sym e) (has_at xs j d (omega arith))))
distinct_at (x ∷ xs) (suc i) zero d a h k e = absurd (a.0 (subst (Has xs) e (has_at xs i d (omega arith))))
distinct_at (x ∷ xs) (suc i) (suc j) d a h k e = ap suc (distinct_at xs i j d a.1 (omega arith) (omega arith) e)

pub ascending_distinct : (xs : List ℕ) → Ascends ◌<◌ xs → Distinct xs
ascending_distinct [] a = tt
ascending_distinct (x ∷ xs) a = (λ h. let l : x < x = each_has (λ z. x < z) xs x a.0 h in absurd (omega arith), ascending_distinct xs a.1)
