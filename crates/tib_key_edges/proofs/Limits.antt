-- What it says that a hunt found too many, and that each key and edge has a part.
use Rattle.std.specs.Prelude.{◌≡◌, ℕ, ◌<◌, ◌≤◌, List, [], ◌∷◌, length}
use Rattle.std.proofs.Common.{subst, arith}
use Rattle.tib_lex.specs.Lists.{total}
use Rattle.tib_expand.specs.Limits.{IfTooMany}
use Rattle.tib_expand.specs.declared.error.HuntError.TheVariants.{TooMany}
use Rattle.tib_expand.specs.declared.error.HuntError.{HuntError}

-- too many is the limit, and what is promised of it holds
pub too_many : (limit n : ℕ) (P : Type 0) (e : HuntError) → e ≡ TooMany n → IfTooMany limit P e → (n ≡ limit) × P
too_many limit n P e is h = subst (IfTooMany limit P) is h

-- if each has a part, there are no more of them than they have parts
pub each_counts : {A : Type 0} (parts : A → ℕ) → ((x : A) → 0 < parts x) → (xs : List A) → length xs ≤ total parts xs
each_counts parts some [] = omega arith
each_counts parts some (x ∷ xs) = omega (arith, some x, each_counts parts some xs)
