-- How often a number occurs in a list, and below a count.
use Rattle.std.proofs.Common.{◌≡◌, ℕ, zero, suc, ◌+◌, ◌≤◌, List, [], ◌∷◌, ◌++◌, refl, arith}
use Rattle.std.proofs.lemmas.Bool.Decides.{nat_tests}
use Rattle.tib_workers.specs.Claims.{one_if, once_below}
use Rattle.tib_lex.specs.Lists.{occurrences}

-- a number occurs in two lists as often as in both together
pub occurrences-append : (x : ℕ) (xs ys : List ℕ) → occurrences x (xs ++ ys) ≡ occurrences x xs + occurrences x ys
occurrences-append x [] ys = omega arith
occurrences-append x (y ∷ xs) ys = let h = occurrences-append x xs ys in omega arith

one_if_le : (x y : ℕ) → one_if x y ≤ 1
one_if_le x y = grind (arith, nat_tests)

once_above : (x n : ℕ) → n ≤ x → once_below x n ≡ 0
once_above x zero h = refl
once_above x (suc n) h = let a = once_above x n (omega arith) in grind (arith, nat_tests)

-- a number is counted at most once below a count
pub once_le : (x n : ℕ) → once_below x n ≤ 1
once_le x zero = omega arith
once_le x (suc n) = let a = once_le x n in let b = once_above x n in grind (arith, nat_tests)
