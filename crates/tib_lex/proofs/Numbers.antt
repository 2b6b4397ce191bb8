-- Laws of whole numbers and of the tests that compare them.
use Rattle.std.specs.Prelude.{◌≡◌, ◌<◌, ◌+◌, ◌⊎◌, ℕ, true, false, nat_eq, ◌==◌, ◌≤◌, nat_le}
use Rattle.std.proofs.Common.{suc, arith, inl, inr}
use Rattle.std.proofs.lemmas.Bool.Decides.{nat_tests, eqb_tells}

-- two numbers are the same and pass the test, or differ and fail it
pub nat_eq_cases : (g f : ℕ) → ((g ≡ f) × (nat_eq g f ≡ true)) ⊎ ((g ≡ f → ⊥) × (nat_eq g f ≡ false))
nat_eq_cases g f = grind (arith, nat_tests)

-- numbers that pass the test are the same
pub nat_eq-true : (a b : ℕ) → nat_eq a b ≡ true → a ≡ b
nat_eq-true a b e = grind (arith, nat_tests)

-- a number passes the test with itself
pub nat_eq-itself : (a : ℕ) → nat_eq a a ≡ true
nat_eq-itself a = grind (arith, nat_tests)

-- bytes that pass the test are the same
pub byte_same : (a b : ℕ) → (a == b) ≡ true → a ≡ b
byte_same a b e = elim (eqb_tells a b) [ inl h ↦ h.1 | inr h ↦ cc ]

-- two numbers are the same or differ
pub same_or_other : (p q : ℕ) → (p ≡ q) ⊎ (p ≡ q → ⊥)
same_or_other p q = grind arith

-- a number at most n is below n or is n
pub below_cases : (i n : ℕ) → i < n + 1 → (i < n) ⊎ (i ≡ n)
below_cases i n h = grind arith

-- the same where the bound is a successor
pub below_suc_cases : (m n : ℕ) → m < suc n → (m < n) ⊎ (m ≡ n)
below_suc_cases m n h = grind arith

-- of two numbers the first is at most the second and passes the test, or is above it and fails it
pub nat_le_cases : (a b : ℕ) → ((a ≤ b) × (nat_le a b ≡ true)) ⊎ ((b < a) × (nat_le a b ≡ false))
nat_le_cases a b = grind (arith, nat_tests)

-- of two numbers the one is below the other, or they are the same
pub nat_three : (a b : ℕ) → (a < b) ⊎ ((a ≡ b) ⊎ (b < a))
nat_three a b = grind arith

pub nat_eq-same : (a b : ℕ) → a ≡ b → nat_eq a b ≡ true
nat_eq-same a b e = grind (arith, nat_tests)
