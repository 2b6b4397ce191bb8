-- The positions that were listed are those where the fresh start leads.
use Rattle.std.specs.Prelude.{◌≡◌, ℕ, if◌then◌else◌, List, [], ◌∷◌, None, Some, refl}
use Rattle.std.proofs.Common.{suc, ap, ◌∙◌, inl, inr}
use Rattle.tib_lex.proofs.Numbers.{nat_eq_cases}
use Rattle.tib_difference.specs.Subsets.{SubsetOf}
use Rattle.tib_difference.specs.Difference.{KeyOf}
use Rattle.tib_difference.specs.Series.{unless_start, with_final, finals}
use Rattle.tib_difference.specs.Lefts.{holds}
use Rattle.tib_difference.specs.Ending.{final_in, with_cost, listed_finals}

unless_is : (v : SubsetOf) (i : ℕ) (more : List (ℕ × ℕ)) → with_cost i (if holds v 0 then None else Some 0) more ≡ unless_start v i more
unless_is [] i more = refl
unless_is (q ∷ v) i more = elim (nat_eq_cases q 0) [ inl z ↦ rw z.1 refl | inr z ↦ rw z.1 (unless_is v i more) ]

final_is : (k : KeyOf) (i : ℕ) (more : List (ℕ × ℕ)) → with_cost i (final_in k) more ≡ with_final i k more
final_is k i more = elim (nat_eq_cases k.0 0) [ inl z ↦ rw z.1 (unless_is k.1 i more) | inr z ↦ rw z.1 refl ]

pub finals_are : (i : ℕ) (order : List KeyOf) → listed_finals i order ≡ finals i order
finals_are i [] = refl
finals_are i (k ∷ order) = ap (with_cost i (final_in k)) (finals_are (suc i) order) ∙ final_is k i (finals (suc i) order)
