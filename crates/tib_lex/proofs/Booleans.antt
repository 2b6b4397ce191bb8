-- Laws of truth values, and of cases that can be decided.
use Rattle.std.specs.Prelude.{◌≡◌, ◌⊎◌, Bool, true, false, ◌&&◌, ◌||◌, refl}
use Rattle.std.proofs.Common.{inl, inr}

-- a truth value is true or false
pub bool_cases : (b : Bool) → (b ≡ true) ⊎ (b ≡ false)
bool_cases true = inl refl
bool_cases false = inr refl

-- where a conjunction holds, both parts do
pub and-true : (a b : Bool) → (a && b) ≡ true → (a ≡ true) × (b ≡ true)
and-true true b e = (refl, e)
and-true false b e = absurd (cc)

-- where both parts hold, their conjunction does
pub and-both : (a b : Bool) → a ≡ true → b ≡ true → (a && b) ≡ true
and-both a b e k = rw (e, k) refl

-- where the first part fails, the conjunction does
pub and-first : {a : Bool} (b : Bool) → a ≡ false → (a && b) ≡ false
and-first b e = rw e

-- where the second part alone fails, the conjunction does
pub and-second : {a b : Bool} → a ≡ true → b ≡ false → (a && b) ≡ false
and-second e k = rw (e, k)

-- where a disjunction holds, its first part does, or its second part alone
pub or-either : (a b : Bool) → (a || b) ≡ true → (a ≡ true) ⊎ ((a ≡ false) × (b ≡ true))
or-either true b e = inl refl
or-either false b e = inr (refl, e)

-- where a disjunction fails, both parts do
pub or-neither : (a b : Bool) → (a || b) ≡ false → (a ≡ false) × (b ≡ false)
or-neither true b e = absurd (cc)
or-neither false b e = (refl, e)

-- a disjunction holds where its second part does
pub or-true : (b : Bool) → (b || true) ≡ true
or-true true = refl
or-true false = refl

-- what follows from each of two cases that exclude one another can't fail
pub either_way : (A : Type 0) → (A ⊎ (A → ⊥) → ⊥) → ⊥
either_way A k = k (inr (λ a. k (inl a)))

-- a conjunction fails where its second part does
pub and-false : (b : Bool) → (b && false) ≡ false
and-false true = refl
and-false false = refl
