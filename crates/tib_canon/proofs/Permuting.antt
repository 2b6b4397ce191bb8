-- Lists in another order.
use Rattle.std.proofs.Common.{◌≡◌, ℕ, ◌<◌, ◌≤◌, List, [], ◌∷◌, length, get_or, refl, sym, ◌∙◌, subst, arith, zero, suc, inl, inr, Bool, true, false}
use Rattle.std.specs.Prelude.{nat_eq, cond, sum_by, Contains, IsPermutation}
use Rattle.std.proofs.lemmas.Bool.Decides.{nat_tests}
use Rattle.std.proofs.lemmas.List.Sums.{sum_by-cons}
use Rattle.std.proofs.lemmas.List.Sorted.{Contains-permutation, sum_by-IsPermutation}
use Rattle.tib_lex.proofs.Numbers.{nat_eq_cases}
use Rattle.tib_lex.specs.Lists.{Has, Distinct}
use Rattle.tib_lex.proofs.Members.{has_at, at_has}

pub has_permuted : {A : Type 0} (xs ys : List A) (x : A) → IsPermutation xs ys → Has xs x → Has ys x
has_permuted xs ys x p h =
    let a = at_has xs x x h in
    let c : Contains ys x = Contains-permutation xs ys x p (a.0, a.1, a.2) in
    subst (Has ys) c.2 (has_at ys c.0 x c.1)

-- how often a number occurs
abbrev one_at : ℕ → ℕ → ℕ
one_at p x = cond (nat_eq x p) 1 0

abbrev times_in : ℕ → List ℕ → ℕ
times_in p xs = sum_by (one_at p) xs

unit : (b : Bool) → b ≡ true → (let n : ℕ = cond b 1 0 in n ≡ 1)
unit true e = refl
unit false e = absurd (cc)

naught : (b : Bool) → b ≡ false → (let n : ℕ = cond b 1 0 in n ≡ 0)
naught true e = absurd (cc)
naught false e = refl

once_more : (p : ℕ) (xs : List ℕ) → times_in p (p ∷ xs) ≡ suc (times_in p xs)
once_more p xs =
    let here : nat_eq p p ≡ true = grind (arith, nat_tests) in
    let one : one_at p p ≡ 1 = unit (nat_eq p p) here in
    omega (arith, sum_by-cons (one_at p) p xs, one)

no_more : (p x : ℕ) (xs : List ℕ) → (x ≡ p → ⊥) → times_in p (x ∷ xs) ≡ times_in p xs
no_more p x xs h =
    let there : nat_eq x p ≡ false = elim (nat_eq_cases x p) [ inl k ↦ absurd (h k.0) | inr k ↦ k.1 ] in
    let nought : one_at p x ≡ 0 = naught (nat_eq x p) there in
    omega (arith, sum_by-cons (one_at p) x xs, nought)

not_fewer : (p x : ℕ) (xs : List ℕ) → times_in p xs ≤ times_in p (x ∷ xs)
not_fewer p x xs = omega (arith, sum_by-cons (one_at p) x xs)

stands_once : (p : ℕ) (xs : List ℕ) → Has xs p → 1 ≤ times_in p xs
stands_once p [] h = absurd h
stands_once p (x ∷ xs) h = elim h [
  | inl e ↦ subst (λ y. 1 ≤ times_in p (y ∷ xs)) (sym e) (omega (arith, once_more p xs))
  | inr k ↦ omega (arith, stands_once p xs k, not_fewer p x xs)
]

stands_nowhere : (p : ℕ) (xs : List ℕ) → (Has xs p → ⊥) → times_in p xs ≡ 0
stands_nowhere p [] h = refl
stands_nowhere p (x ∷ xs) h = no_more p x xs (λ e. h (inl e)) ∙ stands_nowhere p xs (λ k. h (inr k))

at_most_once : (xs : List ℕ) → Distinct xs → (p : ℕ) → times_in p xs ≤ 1
at_most_once [] d p = omega arith
at_most_once (x ∷ xs) d p = elim (nat_eq_cases x p) [
  | inl k ↦
      let none : times_in x xs ≡ 0 = stands_nowhere x xs d.0 in
      subst (λ q. times_in q (x ∷ xs) ≤ 1) k.0 (omega (arith, once_more x xs, none))
  | inr k ↦ omega (arith, no_more p x xs k.0, at_most_once xs d.1 p)
]

distinct_once : (xs : List ℕ) → ((p : ℕ) → times_in p xs ≤ 1) → Distinct xs
distinct_once [] h = tt
distinct_once (x ∷ xs) h = (
  λ k. omega (arith, h x, once_more x xs, stands_once x xs k),
  distinct_once xs (λ p. omega (arith, h p, not_fewer p x xs)),
)

pub distinct_permuted : (xs ys : List ℕ) → IsPermutation xs ys → Distinct xs → Distinct ys
distinct_permuted xs ys p d = distinct_once ys (λ q. omega (arith, at_most_once xs d q, sum_by-IsPermutation (one_at q) xs ys p))

-- distinct values are at one place each
pub distinct_at : {A : Type 0} (xs : List A) (d : A) (i j : ℕ) → Distinct xs → i < j → j < length xs → get_or xs i d ≡ get_or xs j d → ⊥
distinct_at [] d i j a h k e = absurd (omega arith)
distinct_at (x ∷ xs) d i zero a h k e = absurd (omega arith)
distinct_at (x ∷ xs) d zero (suc j) a h k e = a.0 (subst (Has xs) (sym e) (has_at xs j d (omega arith)))
distinct_at (x ∷ xs) d (suc i) (suc j) a h k e = distinct_at xs d i j a.1 (omega arith) (omega arith) e
