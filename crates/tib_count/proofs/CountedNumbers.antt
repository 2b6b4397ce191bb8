-- Numbers as counts.
use Rattle.std.specs.Prelude.{◌≡◌, ℕ, ◌*◌, ◌<◌, ◌≤◌, ◌⊎◌, if◌then◌else◌}
use Rattle.std.proofs.Common.{zero, suc, arith, ap, sym, ◌∙◌, inl, inr, subst}
use Rattle.tib_lex.proofs.Numbers.{nat_le_cases}
use Rattle.tib_cost.specs.Semiring.{most}
use Rattle.tib_count.specs.Counts.{counted, HasMembers, IsCountOf}
use Rattle.tib_count.specs.declared.count.Count.{Count}
use Rattle.tib_count.specs.declared.count.Count.TheVariants.{Number, Many}

pub small_counted : (n : ℕ) → n ≤ most → counted n ≡ Number n
small_counted n h = elim (nat_le_cases n most) [
  | inl k ↦ ap (λ b. if b then Number n else Many) k.1
  | inr k ↦ absurd (omega (arith, k.0))
]

pub large_counted : (n : ℕ) → most < n → counted n ≡ Many
large_counted n h = elim (nat_le_cases n most) [
  | inl k ↦ absurd (omega (arith, k.0))
  | inr k ↦ ap (λ b. if b then Number n else Many) k.1
]

size_cases : (n : ℕ) → (n ≤ most) ⊎ (most < n)
size_cases n = elim (nat_le_cases n most) [ inl k ↦ inl k.0 | inr k ↦ inr k.0 ]

pub number_is : (k n : ℕ) → Number k ≡ counted n → k ≡ n
number_is k n e = elim (size_cases n) [
  | inl h ↦ let f : Number k ≡ Number n = e ∙ small_counted n h in cc f
  | inr h ↦ let f : Number k ≡ Many = e ∙ large_counted n h in absurd (cc f)
]

pub no_number : (n : ℕ) → ((k : ℕ) → counted n ≡ Number k → ⊥) → most < n
no_number n never = elim (size_cases n) [ inl h ↦ absurd (never n (small_counted n h)) | inr h ↦ h ]

-- a number times one above the greatest cost
pub number_times : (c : Count) (k m n : ℕ) → k ≡ n → ((m : ℕ) → most < m → c ≡ counted (k * m)) → most < m → c ≡ counted (m * n)
number_times c k m n e is h = is m h ∙ ap counted (ap (λ z. z * m) e ∙ swap n m)
  where
    swap : (n m : ℕ) → n * m ≡ m * n
    swap n m = grind arith

pub many_times_many : (m n : ℕ) → most < m → most < n → Many ≡ counted (m * n)
many_times_many m n h k = sym (large_counted (m * n) (large m n h k))
  where
    at_least : (m n : ℕ) → 0 < m → n ≤ m * n
    at_least zero n h = absurd (omega (arith, h))
    at_least (suc m) n h = grind arith

    large : (m n : ℕ) → most < m → most < n → most < m * n
    large m n h k = omega (arith, at_least m n (omega (arith, h)), k)

-- the number of the members of a set, as a count
pub count_is : {A : Type 0} (P : A → Type 0) (n : ℕ) (c : Count) → c ≡ counted n → HasMembers P n → IsCountOf P c
count_is P n c e h = elim (size_cases n) [
  | inl k ↦ subst (IsCountOf P) (sym (e ∙ small_counted n k)) (h, k)
  | inr k ↦ subst (IsCountOf P) (sym (e ∙ large_counted n k)) (n, h, k)
]
