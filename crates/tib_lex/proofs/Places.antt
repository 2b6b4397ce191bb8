-- What is at a place of a list, of its front, and of a list that goes on.
use Rattle.std.specs.Prelude.{◌≡◌, ℕ, ◌<◌, List, [], ◌∷◌, length, refl, take, ◌+◌, ◌++◌, ◌≤◌, drop, slice_index_or, zero, suc, map}
use Rattle.std.proofs.Common.{arith, ap, sym, subst, get_or, ◌∙◌, inl, inr}
use Rattle.std.proofs.Math.Seq.{get_or-append_seam}
use Rattle.tib_lex.specs.Lists.{Has, Distinct}
use Rattle.tib_lex.proofs.Members.{has_at}

-- equal elements of a list of distinct ones have one index
pub distinct_at : {A : Type 0} (xs : List A) (i j : ℕ) (d : A) → Distinct xs → i < length xs → j < length xs → get_or xs i d ≡ get_or xs j d → i ≡ j
distinct_at [] i j d s h k e = absurd (omega arith)
distinct_at (x ∷ xs) zero zero d s h k e = refl
distinct_at (x ∷ xs) zero (suc j) d s h k e = absurd (s.0 (subst (Has xs) (sym e) (has_at xs j d (omega arith))))
distinct_at (x ∷ xs) (suc i) zero d s h k e = absurd (s.0 (subst (Has xs) e (has_at xs i d (omega arith))))
distinct_at (x ∷ xs) (suc i) (suc j) d s h k e = ap suc (distinct_at xs i j d s.1 (omega arith) (omega arith) e)

-- a front that is long enough has at a place what the list has there
pub take_at : {A : Type 0} (xs : List A) (n : ℕ) (d : A) → get_or (take (suc n) xs) n d ≡ get_or xs n d
take_at [] zero d = refl
take_at [] (suc n) d = refl
take_at (x ∷ xs) zero d = refl
take_at (x ∷ xs) (suc n) d = take_at xs n d

-- the next longer front
pub take_next : {A : Type 0} (xs : List A) (i : ℕ) (d : A) → i < length xs → take (i + 1) xs ≡ take i xs ++ get_or xs i d ∷ []
take_next [] i d h = absurd (omega arith)
take_next (x ∷ xs) zero d h = refl
take_next (x ∷ xs) (suc i) d h =
    let e : suc i + 1 ≡ suc (i + 1) = omega arith in
    ap (λ j. take j (x ∷ xs)) e ∙ ap (λ ys. x ∷ ys) (take_next xs i d (omega arith))

-- a front that is long enough is the list
pub take_whole : {A : Type 0} (xs : List A) (i : ℕ) → length xs ≤ i → take i xs ≡ xs
take_whole [] zero h = refl
take_whole [] (suc i) h = refl
take_whole (x ∷ xs) zero h = absurd (omega arith)
take_whole (x ∷ xs) (suc i) h = ap (λ ys. x ∷ ys) (take_whole xs i (omega arith))

-- and nothing is left after it
pub drop_whole : {A : Type 0} (xs : List A) (i : ℕ) → length xs ≤ i → drop i xs ≡ []
drop_whole [] zero h = refl
drop_whole [] (suc i) h = refl
drop_whole (x ∷ xs) zero h = absurd (omega arith)
drop_whole (x ∷ xs) (suc i) h = drop_whole xs i (omega arith)

-- a front and what is after it are the list
pub take_drop : {A : Type 0} (n : ℕ) (xs : List A) → take n xs ++ drop n xs ≡ xs
take_drop zero xs = refl
take_drop (suc n) [] = refl
take_drop (suc n) (x ∷ xs) = ap (λ zs. x ∷ zs) (take_drop n xs)

-- in a list that has no member twice, what is at a place is not in the front before it
pub not_before : {A : Type 0} (xs : List A) (i : ℕ) (d : A) → Distinct xs → i < length xs → Has (take i xs) (get_or xs i d) → ⊥
not_before [] i d s h k = omega arith
not_before (x ∷ xs) zero d s h k = k
not_before (x ∷ xs) (suc i) d s h k = elim k [
  | inl e ↦ s.0 (subst (Has xs) (sym e) (has_at xs i d (omega arith)))
  | inr m ↦ not_before xs i d s.1 (omega arith) m
]

-- a list that goes on has at a place what it had there
pub index_append : {K : Type 0} (xs ys : List K) (i : ℕ) (d : K) → i < length xs → slice_index_or (xs ++ ys) i d ≡ slice_index_or xs i d
index_append [] ys i d h = absurd (omega arith)
index_append (x ∷ xs) ys zero d h = refl
index_append (x ∷ xs) ys (suc i) d h = index_append xs ys i d (omega arith)

-- two ways to read a place of a list agree within it
pub index_get : {K : Type 0} (xs : List K) (i : ℕ) (d c : K) → i < length xs → slice_index_or xs i d ≡ get_or xs i c
index_get [] i d c h = absurd (omega arith)
index_get (x ∷ xs) zero d c h = refl
index_get (x ∷ xs) (suc i) d c h = index_get xs i d c (omega arith)

-- what is read within a list does not depend on the default
pub any_default : {A : Type 0} (xs : List A) (n : ℕ) (d e : A) → n < length xs → get_or xs n d ≡ get_or xs n e
any_default [] n d e h = absurd (omega arith)
any_default (x ∷ xs) zero d e h = refl
any_default (x ∷ xs) (suc n) d e h = any_default xs n d e (omega arith)

-- what is added to a list is at its end
pub last_is : {A : Type 0} (xs : List A) (x d : A) (i : ℕ) → i ≡ length xs → get_or (xs ++ x ∷ []) i d ≡ x
last_is xs x d i e = ap (λ n. get_or (xs ++ x ∷ []) n d) e ∙ get_or-append_seam xs x [] d

-- a mapped list has at a place what the function gives for the member there
pub get_map : {A B : Type 0} (g : A → B) (xs : List A) (j : ℕ) (d : B) (c : A) → j < length xs → get_or (map g xs) j d ≡ g (get_or xs j c)
get_map g [] j d c h = absurd (omega arith)
get_map g (x ∷ xs) zero d c h = refl
get_map g (x ∷ xs) (suc j) d c h = get_map g xs j d c (omega arith)

-- the same at any place, with the default mapped too
pub at_map : {A B : Type 0} (g : A → B) (xs : List A) (i : ℕ) (d : A) → get_or (map g xs) i (g d) ≡ g (get_or xs i d)
at_map g [] i d = refl
at_map g (x ∷ xs) zero d = refl
at_map g (x ∷ xs) (suc i) d = at_map g xs i d
