-- Members of lists: their places, the lists that they are in, and what holds of each.
use Rattle.std.specs.Prelude.{◌≡◌, ℕ, ◌<◌, List, [], ◌∷◌, length, IsPermutation}
use Rattle.std.proofs.Common.{◌⊎◌, ◌++◌, get_or, Contains, refl, sym, subst, arith, zero, suc, inl, inr}
use Rattle.tib_lex.specs.Lists.{Has, Each, Distinct, Ascends}
use Rattle.std.proofs.lemmas.List.Sorted.{Contains-permutation}

pub each_has : {A : Type 0} (P : A → Type 0) (xs : List A) (x : A) → Each P xs → Has xs x → P x
each_has P [] x e h = absurd h
each_has P (y ∷ ys) x e h = elim h [ inl k ↦ subst P k e.0 | inr k ↦ each_has P ys x e.1 k ]

pub each_of : {A : Type 0} (P : A → Type 0) (xs : List A) → ((x : A) → Has xs x → P x) → Each P xs
each_of P [] f = tt
each_of P (x ∷ xs) f = (f x (inl refl), each_of P xs (λ y h. f y (inr h)))

-- what is at a place is in the list, and the other way round
pub has_at : {A : Type 0} (xs : List A) (n : ℕ) (d : A) → n < length xs → Has xs (get_or xs n d)
has_at [] n d h = absurd (omega arith)
has_at (x ∷ xs) zero d h = inl refl
has_at (x ∷ xs) (suc n) d h = inr (has_at xs n d (omega arith))

pub at_has : {A : Type 0} (xs : List A) (x d : A) → Has xs x → (n : ℕ) × (n < length xs) × (get_or xs n d ≡ x)
at_has [] x d h = absurd h
at_has (y ∷ ys) x d h = elim h [
  | inl e ↦ (0, omega arith, e)
  | inr k ↦ let r = at_has ys x d k in (suc r.0, omega (arith, r.1), r.2)
]

pub has_left : {A : Type 0} (xs ys : List A) (x : A) → Has xs x → Has (xs ++ ys) x
has_left [] ys x h = absurd h
has_left (z ∷ xs) ys x h = elim h [ inl e ↦ inl e | inr k ↦ inr (has_left xs ys x k) ]

pub has_right : {A : Type 0} (xs ys : List A) (x : A) → Has ys x → Has (xs ++ ys) x
has_right [] ys x h = h
has_right (z ∷ xs) ys x h = inr (has_right xs ys x h)

pub has_either : {A : Type 0} (xs ys : List A) (x : A) → Has (xs ++ ys) x → Has xs x ⊎ Has ys x
has_either [] ys x h = inr h
has_either (z ∷ xs) ys x h = elim h [
  | inl e ↦ inl (inl e)
  | inr k ↦ elim (has_either xs ys x k) [ inl l ↦ inl (inr l) | inr r ↦ inr r ]
]

-- a new last member keeps members distinct and of a kind
pub distinct_more : {A : Type 0} (xs : List A) (y : A) → Distinct xs → (Has xs y → ⊥) → Distinct (xs ++ y ∷ [])
distinct_more [] y d n = (λ h. h, tt)
distinct_more (x ∷ xs) y d n = (
  λ h. elim (has_either xs (y ∷ []) x h) [
    | inl k ↦ d.0 k
    | inr k ↦ elim k [ inl e ↦ n (inl (sym e)) | inr a ↦ absurd a ]
  ],
  distinct_more xs y d.1 (λ h. n (inr h)),
)

pub each_more : {A : Type 0} (P : A → Type 0) (xs : List A) (y : A) → Each P xs → P y → Each P (xs ++ y ∷ [])
each_more P [] y e p = (p, tt)
each_more P (x ∷ xs) y e p = (e.0, each_more P xs y e.1 p)

-- a member is contained, and the other way round
pub has_contains : {A : Type 0} (xs : List A) (x : A) → Has xs x → Contains xs x
has_contains xs x h = at_has xs x x h

-- a list has no member twice where equal members have one place
pub distinct_from : {A : Type 0} (xs : List A) (d : A) → ((i j : ℕ) → i < length xs → j < length xs → get_or xs i d ≡ get_or xs j d → i ≡ j) → Distinct xs
distinct_from [] d h = tt
distinct_from (x ∷ xs) d h = (
  λ k. let a = at_has xs x d k in let bad : 0 ≡ suc a.0 = h 0 (suc a.0) (omega arith) (omega (arith, a.1)) (sym a.2) in omega (arith, bad),
  distinct_from xs d (λ i j a b e. let next : suc i ≡ suc j = h (suc i) (suc j) (omega arith) (omega arith) e in omega (arith, next)),
)

-- a list of numbers that ascends and has 0 begins with it
pub least_first : (xs : List ℕ) → Ascends ◌<◌ xs → Has xs 0 → (0 < length xs) × (get_or xs 0 0 ≡ 0)
least_first [] a h = absurd h
least_first (x ∷ xs) a h = elim h [
  | inl e ↦ (omega arith, e)
  | inr k ↦ let low : x < 0 = each_has (λ y. x < y) xs 0 a.0 k in absurd (omega arith)
]

pub has_permuted : (xs ys : List (ℕ × ℕ)) (x : ℕ × ℕ) → IsPermutation xs ys → Has xs x → Has ys x
has_permuted xs ys x p h =
    let a = at_has xs x x h in
    let c : Contains ys x = Contains-permutation xs ys x p (a.0, a.1, a.2) in
    subst (Has ys) c.2 (has_at ys c.0 x c.1)

-- what holds of each holds at a place
pub each_at : {A : Type 0} (P : A → Type 0) (xs : List A) (n : ℕ) (d : A) → Each P xs → n < length xs → P (get_or xs n d)
each_at P [] n d e h = absurd (omega arith)
each_at P (x ∷ xs) zero d e h = e.0
each_at P (x ∷ xs) (suc n) d e h = each_at P xs n d e.1 (omega arith)
