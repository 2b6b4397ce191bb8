-- Orders one after another, and the order of numbers.
use Rattle.std.specs.Prelude.{◌≡◌, ℕ, ◌<◌, ◌⊎◌, not, true, false, refl}
use Rattle.std.specs.Bool.{◌==◌}
use Rattle.std.specs.declared.cmp.Ordering.{Ordering}
use Rattle.std.specs.declared.cmp.Ordering.TheVariants.{Less, Equal, Greater}
use Rattle.std.specs.Ordering.{nat_cmp, ordering_then, ordering_index}
use Rattle.std.specs.Cmp.{nat_cmp_is}
use Rattle.std.specs.FinMap.{nat_cmp-IsAntisymmetric}
use Rattle.std.proofs.lemmas.Cmp.{nat_cmp_total, tied_itself}
use Rattle.std.proofs.Common.{suc, arith, ap, sym, ◌∙◌, inl, inr}

pub three_ways : (a b : ℕ) → (a < b) ⊎ ((a ≡ b) ⊎ (b < a))
three_ways a b = grind arith

pub nat_itself : (n : ℕ) → nat_cmp n n ≡ Equal
nat_itself n = tied_itself nat_cmp_total n

pub nat_equal : (a b : ℕ) → nat_cmp a b ≡ Equal → a ≡ b
nat_equal a b e = nat_cmp-IsAntisymmetric a b e

pub nat_less : (a b : ℕ) → a < b → nat_cmp a b ≡ Less
nat_less a b h = sym (nat_cmp_is a b Less h)

pub nat_suc : (a b : ℕ) → nat_cmp (suc a) (suc b) ≡ nat_cmp a b
nat_suc a b = elim (three_ways a b) [
  | inl h ↦ let k : suc a < suc b = omega arith in sym (nat_cmp_is (suc a) (suc b) Less k) ∙ nat_cmp_is a b Less h
  | inr o ↦ elim o [
    | inl h ↦ ap (λ c. nat_cmp (suc c) (suc b)) h ∙ nat_itself (suc b) ∙ sym (nat_itself b) ∙ ap (λ c. nat_cmp c b) (sym h)
    | inr h ↦ let k : suc b < suc a = omega arith in sym (nat_cmp_is (suc a) (suc b) Greater k) ∙ nat_cmp_is a b Greater h
  ]
]

pub then_assoc :
    (a b c : Ordering) →
    ordering_then (ordering_then a b) c ≡ ordering_then a (ordering_then b c)
then_assoc Less b c = refl
then_assoc Equal b c = refl
then_assoc Greater b c = refl

-- the first decides where it can
pub then_decided : (a b : Ordering) → (a ≡ Equal → ⊥) → ordering_then a b ≡ a
then_decided Less b h = refl
then_decided Equal b h = absurd (h refl)
then_decided Greater b h = refl

-- both tie where one after the other does
pub then_Equal : (a b : Ordering) → ordering_then a b ≡ Equal → (a ≡ Equal) × (b ≡ Equal)
then_Equal Equal b e = (refl, e)
then_Equal Less b e = absurd (cc)
then_Equal Greater b e = absurd (cc)

-- what the code's test for equality says
pub is_tied : (o : Ordering) → not (ordering_index o == 1) ≡ false → o ≡ Equal
is_tied Less h = absurd (cc)
is_tied Equal h = refl
is_tied Greater h = absurd (cc)

pub is_decided : (o : Ordering) → not (ordering_index o == 1) ≡ true → o ≡ Equal → ⊥
is_decided Less h e = absurd (cc)
is_decided Equal h e = absurd (cc)
is_decided Greater h e = absurd (cc)
