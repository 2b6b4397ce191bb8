-- What is found in a vector whose states ascend.
use Rattle.std.specs.Prelude.{◌≡◌, ℕ, ◌<◌, ◌≤◌, [], ◌∷◌, length, None, Some, refl}
use Rattle.std.proofs.Common.{zero, suc, arith, sym, subst, inl, inr, get_or, ◌+◌, ◌⊎◌}
use Rattle.tib_lex.proofs.Members.{each_has}
use Rattle.tib_lex.proofs.Numbers.{nat_eq_cases}
use Rattle.tib_grammar.proofs.Members.{has_at}
use Rattle.tib_determinize.specs.Lookup.{residual_in}
use Rattle.tib_determinize.specs.Vectors.{VectorOf, Rises}

-- of two entries the later one has the greater state
pub rises_at : (v : VectorOf) (i j : ℕ) → Rises v → i < j → j < length v → (get_or v i (0, 0)).0 < (get_or v j (0, 0)).0
rises_at [] i j rises less low = absurd (omega (arith, low))
rises_at (x ∷ v) i zero rises less low = absurd (omega (arith, less))
rises_at (x ∷ v) zero (suc j) rises less low = each_has (λ b. x.0 < b.0) v (get_or v j (0, 0)) rises.0 (has_at v j (0, 0) (omega (arith, low)))
rises_at (x ∷ v) (suc i) (suc j) rises less low = rises_at v i j rises.1 (omega (arith, less)) (omega (arith, low))

-- entries before one are of lesser states, if those before a later one are
pub before_more : (v : VectorOf) (n q : ℕ) → Rises v → n < length v → (get_or v n (0, 0)).0 < q → (i : ℕ) → i < n + 1 → (get_or v i (0, 0)).0 < q
before_more v n q rises low less i h = by (grind arith)
  where
    by : (i ≡ n) ⊎ (i < n) → (get_or v i (0, 0)).0 < q
    by (inl e) = subst (λ m. (get_or v m (0, 0)).0 < q) (sym e) less
    by (inr l) = (let up = rises_at v i n rises l low in omega (arith, up, less))

-- entries from one on are of no lesser states
pub behind_all : (v : VectorOf) (n q : ℕ) → Rises v → q ≤ (get_or v n (0, 0)).0 → (i : ℕ) → n ≤ i → i < length v → q ≤ (get_or v i (0, 0)).0
behind_all v n q rises least i from low = by (grind arith)
  where
    by : (i ≡ n) ⊎ (n < i) → q ≤ (get_or v i (0, 0)).0
    by (inl e) = subst (λ m. q ≤ (get_or v m (0, 0)).0) (sym e) least
    by (inr l) = (let up = rises_at v n i rises l low in omega (arith, up, least))

-- the entry of a state is found, where those before it are of lesser states
pub found_at : (v : VectorOf) (q n : ℕ) → n < length v → ((i : ℕ) → i < n → (get_or v i (0, 0)).0 < q) → (get_or v n (0, 0)).0 ≡ q → residual_in q v ≡ Some (get_or v n (0, 0)).1
found_at [] q n low before e = absurd (omega (arith, low))
found_at (x ∷ v) q zero low before e = elim (nat_eq_cases x.0 q) [ inl k ↦ rw k.1 refl | inr k ↦ absurd (k.0 e) ]
found_at (x ∷ v) q (suc n) low before e = elim (nat_eq_cases x.0 q) [
  | inl k ↦ (let first = before 0 (omega arith) in let same = k.0 in absurd (omega (arith, first, same)))
  | inr k ↦ rw k.1 (found_at v q n (omega (arith, low)) (λ i l. before (suc i) (omega (arith, l))) e)
]

-- and no entry is found, where none is of the state
none_found : (v : VectorOf) (q : ℕ) → ((i : ℕ) → i < length v → (get_or v i (0, 0)).0 ≡ q → ⊥) → residual_in q v ≡ None
none_found [] q none = refl
none_found (x ∷ v) q none = elim (nat_eq_cases x.0 q) [
  | inl k ↦ absurd (none 0 (omega arith) k.0)
  | inr k ↦ rw k.1 (none_found v q (λ i l. none (suc i) (omega (arith, l))))
]

-- none is found where the entries before a place are of lesser states, and those from it on of
-- greater ones
pub not_found : (v : VectorOf) (q n : ℕ) → Rises v → ((i : ℕ) → i < n → (get_or v i (0, 0)).0 < q) → ((i : ℕ) → n ≤ i → i < length v → q ≤ (get_or v i (0, 0)).0) →
    (n < length v → (get_or v n (0, 0)).0 ≡ q → ⊥) → residual_in q v ≡ None
not_found v q n rises before behind other = none_found v q (λ i low e. by i low e (grind arith))
  where
    by : (i : ℕ) → i < length v → (get_or v i (0, 0)).0 ≡ q → (i < n) ⊎ ((i ≡ n) ⊎ (n < i)) → ⊥
    by i low e (inl l) = (let b = before i l in omega (arith, b, e))
    by i low e (inr (inl s)) = other (subst (λ m. m < length v) s low) (subst (λ m. (get_or v m (0, 0)).0 ≡ q) s e)
    by i low e (inr (inr l)) =
        let up = rises_at v n i rises l low in
        let first = behind n (omega arith) (omega (arith, l, low)) in
        omega (arith, up, first, e)
