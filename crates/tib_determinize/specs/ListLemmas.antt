-- Lists, and lists side by side.
use Rattle.std.specs.Prelude.{◌≡◌, ℕ, ◌+◌, ◌<◌, ◌≤◌, ◌⊎◌, List, [], ◌∷◌, ◌++◌, length, refl}
use Rattle.std.proofs.Common.{zero, suc, arith, ap, subst, inl, inr, get_or}
use Rattle.tib_lex.specs.Lists.{Has, Each, Along}

-- two numbers are the same or not
pub nat_same : (a b : ℕ) → (a ≡ b) ⊎ (a ≡ b → ⊥)
nat_same a b = grind arith

-- one of two numbers is at most the other
pub order_of : (a b : ℕ) → (a ≤ b) ⊎ (b ≤ a)
order_of a b = grind arith

-- a weaker fact holds of each
pub each_map : {A : Type 0} (P Q : A → Type 0) → ((x : A) → P x → Q x) → (xs : List A) → Each P xs → Each Q xs
each_map P Q f [] e = tt
each_map P Q f (x ∷ xs) e = (f x e.0, each_map P Q f xs e.1)

-- a member of the first of two lists
pub get_left : {A : Type 0} (xs ys : List A) (i : ℕ) (d : A) → i < length xs → get_or (xs ++ ys) i d ≡ get_or xs i d
get_left [] ys i d h = absurd (omega arith)
get_left (x ∷ xs) ys zero d h = refl
get_left (x ∷ xs) ys (suc i) d h = get_left xs ys i d (omega arith)

-- a member of the second of two lists
pub get_right : {A : Type 0} (xs ys : List A) (i j : ℕ) (d : A) → i ≡ length xs + j → get_or (xs ++ ys) i d ≡ get_or ys j d
get_right [] ys i j d h = ap (λ n. get_or ys n d) (omega arith)
get_right (x ∷ xs) ys zero j d h = absurd (omega arith)
get_right (x ∷ xs) ys (suc i) j d h = get_right xs ys i j d (omega arith)

-- a place is in the front, or after it
pub side_of : (n m : ℕ) → (n < m) ⊎ ((j : ℕ) × (n ≡ m + j))
side_of zero zero = inr (0, omega arith)
side_of zero (suc m) = inl (omega arith)
side_of (suc n) zero = inr (suc n, omega arith)
side_of (suc n) (suc m) = elim (side_of n m) [ inl h ↦ inl (omega arith) | inr h ↦ inr (h.0, omega (arith, h.1)) ]

-- the origin at the place of a value
pub along_get : {A B : Type 0} (R : A → B → Type 0) (xs : List A) (ys : List B) (j : ℕ) (c : A) (d : B) → Along R xs ys → j < length ys → (j < length xs) × R (get_or xs j c) (get_or ys j d)
along_get R [] [] j c d a h = absurd (omega arith)
along_get R [] (y ∷ ys) j c d a h = absurd a
along_get R (x ∷ xs) [] j c d a h = absurd a
along_get R (x ∷ xs) (y ∷ ys) zero c d a h = (omega arith, a.0)
along_get R (x ∷ xs) (y ∷ ys) (suc j) c d a h = let r = along_get R xs ys j c d a.1 (omega arith) in (omega (arith, r.0), r.1)

-- a member of the second list has its partner
pub along_back : {A B : Type 0} (R : A → B → Type 0) (xs : List A) (ys : List B) (y : B) → Along R xs ys → Has ys y → (x : A) × R x y × Has xs x
along_back R [] [] y a h = absurd h
along_back R [] (z ∷ ys) y a h = absurd a
along_back R (x ∷ xs) [] y a h = absurd h
along_back R (x ∷ xs) (z ∷ ys) y a h = elim h [
  | inl e ↦ (x, subst (R x) e a.0, inl refl)
  | inr k ↦ let r = along_back R xs ys y a.1 k in (r.0, r.1, inr r.2)
]
