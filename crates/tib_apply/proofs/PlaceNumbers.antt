-- The place of a label among distinct ones, as a search finds it.
use Rattle.std.specs.Prelude.{◌≡◌, ℕ, ◌≤◌, nat_eq, nat_lt, Bool, true, false, cond, List, [], ◌∷◌, length, None, Some, position, refl}
use Rattle.std.specs.List.{position_or_len}
use Rattle.std.proofs.Common.{arith, sym, ◌∙◌, inl, inr}
use Rattle.tib_lex.proofs.Numbers.{nat_eq_cases}
use Rattle.tib_apply.specs.Restrictions.{place_of}

places_same : (f : ℕ) (fs : List ℕ) → position_or_len (nat_eq f) fs ≡ place_of f fs
places_same f [] = refl
places_same f (g ∷ gs) = elim (nat_eq_cases f g) [
  | inl k ↦ elim (nat_eq_cases g f) [
    | inl l ↦ rw (k.1, l.1) refl
    | inr l ↦ absurd (l.0 (sym k.0))
  ]
  | inr k ↦ elim (nat_eq_cases g f) [
    | inl l ↦ absurd (k.0 (sym l.0))
    | inr l ↦ rw (k.1, l.1) (omega (arith, places_same f gs))
  ]
]

place_fits : (f : ℕ) (fs : List ℕ) → place_of f fs ≤ length fs
place_fits f [] = omega arith
place_fits f (g ∷ gs) = elim (nat_eq_cases g f) [
  | inl k ↦ rw k.1 (omega arith)
  | inr k ↦ rw k.1 (omega (arith, place_fits f gs))
]

-- a place that was found
pub place_found : (f : ℕ) (fs : List ℕ) (n : ℕ) → Some n ≡ position (nat_eq f) fs → n ≡ place_of f fs
place_found f fs n e = go (nat_lt (position_or_len (nat_eq f) fs) (length fs)) e ∙ places_same f fs
  where
    go : (b : Bool) → Some n ≡ cond b (Some (position_or_len (nat_eq f) fs)) None → n ≡ position_or_len (nat_eq f) fs
    go true e = grind (arith, e)
    go false e = grind (arith, e)

-- a label that was not found has the place after all others
pub place_behind : (f : ℕ) (fs : List ℕ) → None ≡ position (nat_eq f) fs → length fs ≡ place_of f fs
place_behind f fs e = go (nat_lt (position_or_len (nat_eq f) fs) (length fs)) refl e
  where
    go : (b : Bool) → nat_lt (position_or_len (nat_eq f) fs) (length fs) ≡ b → None ≡ cond b (Some (position_or_len (nat_eq f) fs)) None → length fs ≡ place_of f fs
    go true t e = grind (arith, e)
    go false t e = let l : length fs ≤ position_or_len (nat_eq f) fs = grind (arith, t) in omega (arith, l, places_same f fs, place_fits f fs)
