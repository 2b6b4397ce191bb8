-- Places that have a choice.
use Rattle.std.specs.Prelude.{◌≡◌, ◌⊎◌, ℕ, ◌+◌, ◌<◌, Bool, true, false, if◌then◌else◌, IsTrue, List, [], ◌∷◌, ◌++◌, length, refl}
use Rattle.std.proofs.Common.{arith, ap, sym, ◌∙◌, inl, inr}

earlier_or_this : (i m : ℕ) → i < m + 1 → (i < m) ⊎ (i ≡ m)
earlier_or_this i m h = grind arith

-- one more place with a choice
pub next_choice : (at : ℕ → List ℕ) (m : ℕ) → ((i : ℕ) → i < m → at i ≡ [] → ⊥) → (at m ≡ [] → ⊥) → (i : ℕ) → i < m + 1 → at i ≡ [] → ⊥
next_choice at m before own i low e = elim (earlier_or_this i m low) [ inl l ↦ before i l e | inr s ↦ own (ap at (sym s) ∙ e) ]

-- positions below, and n itself or not
pub some_below : (xs ys : List ℕ) → (length xs ≡ 0 → ⊥) → xs ++ ys ≡ [] → ⊥
some_below [] ys n e = n refl
some_below (x ∷ xs) ys n e = absurd (cc)

pub only_itself : (xs ys : List ℕ) (b : Bool) (n : ℕ) → length xs ≡ 0 → ys ≡ (if b then n ∷ [] else []) → IsTrue b → xs ++ ys ≡ [] → ⊥
only_itself [] ys true n z is h e = let c : ◌≡◌ {A = List ℕ} (n ∷ []) [] = sym is ∙ e in absurd (cc)
only_itself [] ys false n z is h e = absurd (cc)
only_itself (x ∷ xs) ys b n z is h e = absurd (cc)

pub none_at_all : (xs ys : List ℕ) (b : Bool) (n : ℕ) → length xs ≡ 0 → ys ≡ (if b then n ∷ [] else []) → b ≡ false → xs ++ ys ≡ []
none_at_all [] ys b n z is e = is ∙ ap (λ (c : Bool). if c then n ∷ [] else []) e
none_at_all (x ∷ xs) ys b n z is e = absurd (omega (arith, z))
