-- The positions that are tried at a place, each once.
use Rattle.std.specs.Prelude.{◌≡◌, ◌⊎◌, ℕ, ◌<◌, ◌≤◌, nat_eq, nat_lt, Bool, true, false, if◌then◌else◌, List, [], ◌∷◌, length, take}
use Rattle.std.proofs.Common.{zero, suc, arith, ap, sym, ◌∙◌, subst, get_or, inl, inr, get_or-take, length-take-le}
use Rattle.tib_lex.specs.Lists.{Has, Distinct}
use Rattle.tib_lex.proofs.Members.{has_either, has_left, has_right, has_at}
use Rattle.tib_lex.proofs.Numbers.{nat_eq_cases, nat_eq-true, nat_eq-itself}
use Rattle.tib_expand.proofs.Members.{distinct_append}
use Rattle.tib_key_edges.proofs.Places.{place_is, is_place, places_once}
use Rattle.tib_difference.specs.Difference.{KeyOf, key_at}
use Rattle.tib_difference.specs.Tries.{positions_of, below_at, itself_at, choices_at}

nat_lt_cases : (a b : ℕ) → ((a < b) × (nat_lt a b ≡ true)) ⊎ ((b ≤ a) × (nat_lt a b ≡ false))
nat_lt_cases a b = grind arith

-- n has a last place in a list that has it
pub record IsLast (n : ℕ) (xs : List ℕ) (j : ℕ) : Type 0 where
  pub below : j < length xs
  pub is : get_or xs j 0 ≡ n
  pub behind : (i : ℕ) → j < i → i < length xs → get_or xs i 0 ≡ n → ⊥

has_or : (n : ℕ) (xs : List ℕ) → Has xs n ⊎ (Has xs n → ⊥)
has_or n [] = inr (λ h. h)
has_or n (x ∷ xs) = elim (nat_eq_cases x n) [
  | inl s ↦ inl (inl s.0)
  | inr s ↦ elim (has_or n xs) [ inl m ↦ inl (inr m) | inr m ↦ inr (λ h. elim h [ inl e ↦ s.0 e | inr k ↦ m k ]) ]
]

pub last_of : (n : ℕ) (xs : List ℕ) → Has xs n → (j : ℕ) × IsLast n xs j
last_of n [] h = absurd h
last_of n (x ∷ xs) h = elim (has_or n xs) [
  | inl m ↦
      let r = last_of n xs m in (
        suc r.0,
        record {
          below = (let b = r.1.below in omega (arith, b));
          is = r.1.is;
          behind = λ i. behind_next r.0 r.1 i;
        },
      )
  | inr m ↦ (
    0,
    record {
      below = omega arith;
      is = elim h [ inl e ↦ e | inr k ↦ absurd (m k) ];
      behind = λ i. behind_first m i;
    },
  )
]
  where
    behind_next : (j : ℕ) → IsLast n xs j → (i : ℕ) → suc j < i → i < length (x ∷ xs) → get_or (x ∷ xs) i 0 ≡ n → ⊥
    behind_next j l zero low high e = omega arith
    behind_next j l (suc i) low high e = l.behind i (omega arith) (omega arith) e

    behind_first : (Has xs n → ⊥) → (i : ℕ) → 0 < i → i < length (x ∷ xs) → get_or (x ∷ xs) i 0 ≡ n → ⊥
    behind_first m zero low high e = omega arith
    behind_first m (suc i) low high e = m (subst (λ y. Has xs y) e (has_at xs i 0 (omega arith)))

-- what may be at the place i, where n is last at j
abbrev pub IsChoice : List ℕ → List KeyOf → ℕ → ℕ → ℕ → ℕ → Type 0
IsChoice states order n j i p = ((i ≡ j → ⊥) × (p < n) × ((key_at order p).0 ≡ get_or states i 0)) ⊎ ((i ≤ j) × (p ≡ n) × (get_or states i 0 ≡ get_or states j 0))

module _ (states : List ℕ) (order : List KeyOf) (n j : ℕ) (low : n < length order) where
  below_is : (i p : ℕ) → Has (below_at states order n j i) p → (i ≡ j → ⊥) × (p < n) × ((key_at order p).0 ≡ get_or states i 0)
  below_is i p h = elim (nat_eq_cases i j) [
    | inl z ↦ absurd (rw z.1 at h)
    | inr z ↦
        let m : Has (positions_of (take n order) (get_or states i 0)) p = rw z.1 at h in
        let r = place_is (λ (k : KeyOf). nat_eq k.0 (get_or states i 0)) (take n order) p (0, []) m in
        let l = length-take-le n order (omega arith) in
        let b : p < n = (let r0 = r.0 in omega (arith, l, r0)) in
        (z.0, b, ap (λ (k : KeyOf). k.0) (sym (get_or-take n order p (0, []) b)) ∙ nat_eq-true (get_or (take n order) p (0, [])).0 (get_or states i 0) r.1)
  ]

  itself_is : (i p : ℕ) → Has (itself_at states n j i) p → (i ≤ j) × (p ≡ n) × (get_or states i 0 ≡ get_or states j 0)
  itself_is i p h = elim (nat_lt_cases j i) [
    | inl z ↦ absurd (rw z.1 at h)
    | inr z ↦
        let m : Has (if nat_eq (get_or states i 0) (get_or states j 0) then n ∷ [] else []) p = rw z.1 at h in
        elim (nat_eq_cases (get_or states i 0) (get_or states j 0)) [
          | inl s ↦ elim (rw s.1 at m) [ inl e ↦ (z.0, sym e, s.0) | inr k ↦ absurd k ]
          | inr s ↦ absurd (rw s.1 at m)
        ]
  ]

  pub choice_is : (i p : ℕ) → Has (choices_at states order n j i) p → IsChoice states order n j i p
  choice_is i p h = elim (has_either (below_at states order n j i) (itself_at states n j i) p h) [ inl m ↦ inl (below_is i p m) | inr m ↦ inr (itself_is i p m) ]

  is_below : (i p : ℕ) → (i ≡ j → ⊥) → p < n → (key_at order p).0 ≡ get_or states i 0 → Has (below_at states order n j i) p
  is_below i p off b same = elim (nat_eq_cases i j) [
    | inl z ↦ absurd (off z.0)
    | inr z ↦ rw z.1
        (is_place (λ (k : KeyOf). nat_eq k.0 (get_or states i 0)) (take n order) p (0, []) (let l = length-take-le n order (omega arith) in omega (arith, l, b))
        (ap (λ (k : KeyOf). nat_eq k.0 (get_or states i 0)) (get_or-take n order p (0, []) b) ∙ ap (λ q. nat_eq q (get_or states i 0)) same ∙ nat_eq-itself (get_or states i 0)))
  ]

  is_itself : (i p : ℕ) → i ≤ j → p ≡ n → get_or states i 0 ≡ get_or states j 0 → Has (itself_at states n j i) p
  is_itself i p l e same = elim (nat_lt_cases j i) [
    | inl z ↦ (let b = z.0 in absurd (omega (arith, l, b)))
    | inr z ↦ rw z.1 (elim (nat_eq_cases (get_or states i 0) (get_or states j 0)) [ inl s ↦ rw s.1 (inl (sym e)) | inr s ↦ absurd (s.0 same) ])
  ]

  pub is_choice : (i p : ℕ) → IsChoice states order n j i p → Has (choices_at states order n j i) p
  is_choice i p c = elim c [
    | inl b ↦ has_left (below_at states order n j i) (itself_at states n j i) p (is_below i p b.0 b.1 b.2)
    | inr b ↦ has_right (below_at states order n j i) (itself_at states n j i) p (is_itself i p b.0 b.1 b.2)
  ]

  below_once : (i : ℕ) → Distinct (below_at states order n j i)
  below_once i = elim (nat_eq_cases i j) [
    | inl z ↦ rw z.1 tt
    | inr z ↦ rw z.1 (places_once (λ (k : KeyOf). nat_eq k.0 (get_or states i 0)) (take n order) (0, []))
  ]

  itself_once : (i : ℕ) → Distinct (itself_at states n j i)
  itself_once i = by (nat_lt j i) (nat_eq (get_or states i 0) (get_or states j 0))
    where
      by : (a b : Bool) → Distinct (if a then [] else (if b then n ∷ [] else []))
      by true b = tt
      by false true = (λ h. h, tt)
      by false false = tt

  pub choices_once : (i : ℕ) → Distinct (choices_at states order n j i)
  choices_once i =
      distinct_append (below_at states order n j i) (itself_at states n j i) (below_once i) (itself_once i)
      (λ p h k. let b = (below_is i p h).1 in let e = (itself_is i p k).1 in omega (arith, b, e))
