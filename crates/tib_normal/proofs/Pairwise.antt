-- What holds of each pair of a list, by places.
use Rattle.std.specs.Prelude.{◌≡◌, ℕ, ◌+◌, ◌<◌, ◌≤◌, List, [], ◌∷◌, length, slice_range, refl, ◌⊎◌}
use Rattle.std.proofs.Common.{zero, suc, get_or, arith, ap, subst, take, drop, ◌-◌, inl, inr}
use Rattle.tib_lex.specs.Lists.{Each, Ascends}
use Rattle.tib_grammar.specs.declared.Rule.{Rule}
use Rattle.tib_grammar.specs.Run.{rule_at, no_rule}
use Rattle.tib_normal.specs.Rules.{rules_from}
use Rattle.tib_normal.specs.Index.{IsStart}
use Rattle.tib_lex.proofs.Numbers.{nat_eq_cases}

pub Each-at : {A : Type 0} (P : A → Type 0) (xs : List A) (d : A) → Each P xs → (n : ℕ) → n < length xs → P (get_or xs n d)
Each-at P [] d e n h = absurd (omega arith)
Each-at P (x ∷ xs) d e zero h = e.0
Each-at P (x ∷ xs) d e (suc n) h = Each-at P xs d e.1 n (omega arith)

pub Ascends-at : {A : Type 0} (R : A → A → Type 0) (xs : List A) (d : A) → Ascends R xs → (m n : ℕ) → m < n → n < length xs → R (get_or xs m d) (get_or xs n d)
Ascends-at R [] d a m n h k = absurd (omega arith)
Ascends-at R (x ∷ xs) d a m zero h k = absurd (omega arith)
Ascends-at R (x ∷ xs) d a zero (suc n) h k = Each-at (R x) xs d a.0 n (omega arith)
Ascends-at R (x ∷ xs) d a (suc m) (suc n) h k = Ascends-at R xs d a.1 m n (omega arith) (omega arith)

take_empty : {A : Type 0} (n : ℕ) → let xs : List A = [] in take n xs ≡ xs
take_empty zero = refl
take_empty (suc n) = refl

-- the start of the rules after the first
start_behind : (r : Rule ℕ) (rules : List (Rule ℕ)) (q p : ℕ) → IsStart (r ∷ rules) q (suc p) → IsStart rules q p
start_behind r rules q p s = record {
  within = omega (arith, s.within);
  before = λ n h. s.before (suc n) (omega arith);
  from = λ n h b. s.from (suc n) (omega arith) (omega arith);
}

start_first : (r : Rule ℕ) (rules : List (Rule ℕ)) (q : ℕ) → IsStart (r ∷ rules) q 0 → IsStart rules q 0
start_first r rules q s = record {
  within = omega arith;
  before = λ n h. absurd (omega arith);
  from = λ n h b. s.from (suc n) (omega arith) (omega arith);
}

-- the rules between two starts are those of the state
between : (rules : List (Rule ℕ)) (q a n b : ℕ) → a + n ≡ b → IsStart rules q a → IsStart rules (q + 1) b → take n (drop a rules) ≡ rules_from q rules
between [] q zero n b e s t = take_empty n
between [] q (suc a) n b e s t = absurd (omega (arith, s.within))
between (r ∷ rules) q zero zero (suc b) e s t = absurd (omega arith)
between (r ∷ rules) q zero (suc n) zero e s t = absurd (omega arith)
between (r ∷ rules) q zero zero zero e s t = elim (nat_eq_cases r.left q) [
  | inl k ↦ absurd (omega (arith, k.0, t.from 0 (omega arith) (omega arith)))
  | inr k ↦ rw k.1 (between rules q 0 0 0 refl (start_first r rules q s) (start_first r rules (q + 1) t))
]
between (r ∷ rules) q zero (suc n) (suc b) e s t = elim (nat_eq_cases r.left q) [
  | inl k ↦ rw k.1 (ap (λ x. r ∷ x) (between rules q 0 n b (omega arith) (start_first r rules q s) (start_behind r rules (q + 1) b t)))
  | inr k ↦ absurd (k.0 (omega (arith, s.from 0 (omega arith) (omega arith), t.before 0 (omega arith))))
]
between (r ∷ rules) q (suc a) n zero e s t = absurd (omega arith)
between (r ∷ rules) q (suc a) n (suc b) e s t = elim (nat_eq_cases r.left q) [
  | inl k ↦ absurd (omega (arith, k.0, s.before 0 (omega arith)))
  | inr k ↦ rw k.1 (between rules q a n b (omega arith) (start_behind r rules q a s) (start_behind r rules (q + 1) b t))
]

starts_ascend : (rules : List (Rule ℕ)) (q a b : ℕ) → IsStart rules q a → IsStart rules (q + 1) b → (b < a → ⊥)
starts_ascend rules q a b s t h = omega (arith, s.before b h, t.from b (omega arith) (omega (arith, s.within)))

pub slice-starts : (rules : List (Rule ℕ)) (q a b : ℕ) → IsStart rules q a → IsStart rules (q + 1) b → (a ≤ b) × (b ≤ length rules) × (slice_range rules a b ≡ rules_from q rules)
slice-starts rules q a b s t =
    let less : b < a → ⊥ = starts_ascend rules q a b s t in
    let up : a ≤ b = omega arith in
    (up, t.within, between rules q a (b - a) b (omega arith) s t)

-- ascending rules from here on have left states of at least q
pub from_here :
    (rules : List (Rule ℕ)) (q p : ℕ) → p < length rules → ((n : ℕ) → n < p → (rule_at rules n).left < q) → Ascends (λ (r s : Rule ℕ). r.left ≤ s.left) rules →
    q ≤ (rule_at rules p).left → IsStart rules q p
from_here rules q p h before a here = record { within = omega arith; before = before; from = λ n b k. later n b k (either n b) }
  where
    either : (n : ℕ) → p ≤ n → (p ≡ n) ⊎ (p < n)
    either n b = grind arith

    later : (n : ℕ) → p ≤ n → n < length rules → (p ≡ n) ⊎ (p < n) → q ≤ (rule_at rules n).left
    later n b k (inl e) = subst (λ m. q ≤ (rule_at rules m).left) e here
    later n b k (inr l) = omega (arith, here, Ascends-at (λ (r s : Rule ℕ). r.left ≤ s.left) rules no_rule a p n l k)
