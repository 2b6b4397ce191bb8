-- States in a vector, and vectors of an order.
use Rattle.std.specs.Prelude.{◌≡◌, ℕ, ◌+◌, ◌<◌, ◌⊎◌, List, [], ◌∷◌, ◌++◌, length, take, refl}
use Rattle.std.proofs.Common.{zero, suc, arith, ap, sym, ◌∙◌, inl, inr, get_or}
use Rattle.tib_lex.specs.Lists.{Has, Each}
use Rattle.tib_determinize.specs.Vectors.{VectorOf, Rises, vector_at, vectors_at}
use Rattle.tib_determinize.specs.ListLemmas.{nat_same, get_left}

-- whether a state is in a vector
pub stands : (q : ℕ) (v : VectorOf) → ((r : ℕ) × Has {A = ℕ × ℕ} v (q, r)) ⊎ ((r : ℕ) → Has {A = ℕ × ℕ} v (q, r) → ⊥)
stands q [] = inr (λ r h. h)
stands q (x ∷ v) = elim (nat_same x.0 q) [
  | inl e ↦ inl (x.1, inl (ap (λ p. (p, x.1)) e))
  | inr e ↦ elim (stands q v) [
    | inl h ↦ inl (h.0, inr h.1)
    | inr absent ↦ inr (λ r h. elim h [ inl k ↦ e (ap (λ (y : ℕ × ℕ). y.0) k) | inr k ↦ absent r k ])
  ]
]

after : (x : ℕ × ℕ) (v : VectorOf) (q r : ℕ) → Each (λ b. x.0 < b.0) v → Has {A = ℕ × ℕ} v (q, r) → x.0 < q
after x [] q r a h = absurd h
after x (y ∷ v) q r a h = elim h [
  | inl e ↦ let k : y.0 ≡ q = ap (λ (z : ℕ × ℕ). z.0) e in omega (arith, a.0)
  | inr k ↦ after x v q r a.1 k
]

-- a state has one residual
pub one_residual : (v : VectorOf) (q r s : ℕ) → Rises v → Has {A = ℕ × ℕ} v (q, r) → Has {A = ℕ × ℕ} v (q, s) → r ≡ s
one_residual [] q r s a h k = absurd h
one_residual (x ∷ v) q r s a h k = elim h [
  | inl e ↦ elim k [
    | inl d ↦ sym (ap (λ (z : ℕ × ℕ). z.1) e) ∙ ap (λ (z : ℕ × ℕ). z.1) d
    | inr d ↦ let low : x.0 < q = after x v q s a.0 d in let same : x.0 ≡ q = ap (λ (z : ℕ × ℕ). z.0) e in absurd (omega arith)
  ]
  | inr e ↦ elim k [
    | inl d ↦ let low : x.0 < q = after x v q r a.0 e in let same : x.0 ≡ q = ap (λ (z : ℕ × ℕ). z.0) d in absurd (omega arith)
    | inr d ↦ one_residual v q r s a.1 e d
  ]
]

-- vectors at places within the front of an order

take_at : {A : Type 0} (xs : List A) (n i : ℕ) (d : A) → i < n → get_or (take n xs) i d ≡ get_or xs i d
take_at [] zero i d h = absurd (omega arith)
take_at [] (suc n) i d h = refl
take_at (x ∷ xs) zero i d h = absurd (omega arith)
take_at (x ∷ xs) (suc n) zero d h = refl
take_at (x ∷ xs) (suc n) (suc i) d h = take_at xs n i d (omega arith)

-- orders that agree up to n have the same vectors at positions up to n
pub vectors_stay : (xs ys : List VectorOf) (n : ℕ) (ps : List ℕ) → take (n + 1) xs ≡ take (n + 1) ys → Each (λ p. p < n + 1) ps → vectors_at xs ps ≡ vectors_at ys ps
vectors_stay xs ys n [] e h = refl
vectors_stay xs ys n (p ∷ ps) e h =
    let first : vector_at xs p ≡ vector_at ys p = sym (take_at xs (n + 1) p [] h.0) ∙ ap (λ (zs : List VectorOf). vector_at zs p) e ∙ take_at ys (n + 1) p [] h.0 in
    let others : vectors_at xs ps ≡ vectors_at ys ps = vectors_stay xs ys n ps e h.1 in
    ap (λ v. v ∷ vectors_at xs ps) first ∙ ap (λ vs. vector_at ys p ∷ vs) others

-- a longer order has the same vectors at the positions of the shorter one
pub vectors_front : (xs ys : List VectorOf) (ps : List ℕ) → Each (λ p. p < length xs) ps → vectors_at (xs ++ ys) ps ≡ vectors_at xs ps
vectors_front xs ys [] h = refl
vectors_front xs ys (p ∷ ps) h =
    let first : vector_at (xs ++ ys) p ≡ vector_at xs p = get_left xs ys p [] h.0 in
    let others : vectors_at (xs ++ ys) ps ≡ vectors_at xs ps = vectors_front xs ys ps h.1 in
    ap (λ v. v ∷ vectors_at (xs ++ ys) ps) first ∙ ap (λ vs. vector_at xs p ∷ vs) others
