-- The positions at which the fresh start leads on.
use Rattle.std.specs.Prelude.{◌≡◌, ◌⊎◌, ℕ, ◌+◌, ◌<◌, List, [], ◌∷◌, length, refl}
use Rattle.std.proofs.Common.{zero, suc, arith, ap, sym, subst, inl, inr}
use Rattle.tib_lex.specs.Lists.{Has}
use Rattle.tib_lex.proofs.Numbers.{nat_eq_cases}
use Rattle.tib_difference.specs.Subsets.{SubsetOf}
use Rattle.tib_difference.specs.Difference.{KeyOf, key_at}
use Rattle.tib_difference.specs.Series.{unless_start, with_final, finals}

-- the key has the start of the first grammar, and not that of the second
pub record IsFinalKey (k : KeyOf) : Type 0 where
  pub start : k.0 ≡ 0
  pub without : Has k.1 0 → ⊥

-- what a key adds

unless_has : (v : SubsetOf) (i : ℕ) (more : List (ℕ × ℕ)) (p : ℕ × ℕ) → Has (unless_start v i more) p → ((p ≡ (i, 0)) × (Has v 0 → ⊥)) ⊎ Has more p
unless_has [] i more p h = elim h [ inl e ↦ inl (sym e, λ k. k) | inr k ↦ inr k ]
unless_has (q ∷ v) i more p h = elim (nat_eq_cases q 0) [
  | inl e ↦ inr (rw e.1 at h)
  | inr n ↦ elim (unless_has v i more p (rw n.1 at h)) [
    | inl f ↦ inl (f.0, λ k. elim k [ inl e ↦ n.0 e | inr m ↦ f.1 m ])
    | inr k ↦ inr k
  ]
]

has_unless : (v : SubsetOf) (i : ℕ) (more : List (ℕ × ℕ)) → (Has v 0 → ⊥) → Has {A = ℕ × ℕ} (unless_start v i more) (i, 0)
has_unless [] i more without = inl refl
has_unless (q ∷ v) i more without = elim (nat_eq_cases q 0) [
  | inl e ↦ absurd (without (inl e.0))
  | inr n ↦ rw n.1 (has_unless v i more (λ k. without (inr k)))
]

unless_keeps : (v : SubsetOf) (i : ℕ) (more : List (ℕ × ℕ)) (p : ℕ × ℕ) → Has more p → Has (unless_start v i more) p
unless_keeps [] i more p h = inr h
unless_keeps (q ∷ v) i more p h = elim (nat_eq_cases q 0) [
  | inl e ↦ rw e.1 h
  | inr n ↦ rw n.1 (unless_keeps v i more p h)
]

final_has : (i : ℕ) (k : KeyOf) (more : List (ℕ × ℕ)) (p : ℕ × ℕ) → Has (with_final i k more) p → ((p ≡ (i, 0)) × IsFinalKey k) ⊎ Has more p
final_has i k more p h = elim (nat_eq_cases k.0 0) [
  | inl e ↦ elim (unless_has k.1 i more p (rw e.1 at h)) [
    | inl f ↦ inl (f.0, record { start = e.0; without = f.1 })
    | inr m ↦ inr m
  ]
  | inr n ↦ inr (rw n.1 at h)
]

has_final : (i : ℕ) (k : KeyOf) (more : List (ℕ × ℕ)) → IsFinalKey k → Has {A = ℕ × ℕ} (with_final i k more) (i, 0)
has_final i k more f = elim (nat_eq_cases k.0 0) [
  | inl e ↦ rw e.1 (has_unless k.1 i more f.without)
  | inr n ↦ absurd (n.0 f.start)
]

final_keeps : (i : ℕ) (k : KeyOf) (more : List (ℕ × ℕ)) (p : ℕ × ℕ) → Has more p → Has (with_final i k more) p
final_keeps i k more p h = elim (nat_eq_cases k.0 0) [
  | inl e ↦ rw e.1 (unless_keeps k.1 i more p h)
  | inr n ↦ rw n.1 h
]

-- what is among the finals
pub record IsFinal (i : ℕ) (order : List KeyOf) (p : ℕ × ℕ) : Type 0 where
  pub position : ℕ
  pub is : p.0 ≡ i + position
  pub costs : p.1 ≡ 0
  pub below : position < length order
  pub key : IsFinalKey (key_at order position)

-- each of the finals is a position of such a key, at `one`
pub finals_have : (i : ℕ) (order : List KeyOf) (p : ℕ × ℕ) → Has (finals i order) p → IsFinal i order p
finals_have i [] p h = absurd h
finals_have i (k ∷ order) p h = elim (final_has i k (finals (suc i) order) p h) [
  | inl f ↦ record { position = 0; is = (let e = ap (λ (x : ℕ × ℕ). x.0) f.0 in omega arith); costs = ap (λ (x : ℕ × ℕ). x.1) f.0; below = omega arith; key = f.1 }
  | inr m ↦
      let f = finals_have (suc i) order p m in
      record { position = suc f.position; is = omega (arith, f.is); costs = f.costs; below = omega (arith, f.below); key = f.key }
]

-- and each such position is among them
pub has_finals : (i : ℕ) (order : List KeyOf) (n m : ℕ) → n < length order → m ≡ i + n → IsFinalKey (key_at order n) → Has {A = ℕ × ℕ} (finals i order) (m, 0)
has_finals i [] n m h e f = absurd (omega arith)
has_finals i (k ∷ order) zero m h e f =
    let same : i ≡ m = omega arith in
    subst (λ (j : ℕ). Has {A = ℕ × ℕ} (finals i (k ∷ order)) (j, 0)) same (has_final i k (finals (suc i) order) f)
has_finals i (k ∷ order) (suc n) m h e f =
    final_keeps i k (finals (suc i) order) (m, 0) (has_finals (suc i) order n m (omega arith) (omega arith) f)
