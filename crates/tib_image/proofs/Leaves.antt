-- What is at the variables of a left-hand side and at the pairs of a list.
use Rattle.std.specs.Prelude.{◌≡◌, ℕ, List, [], ◌∷◌, length, map, refl}
use Rattle.std.proofs.Common.{arith, ap, ◌∙◌, subst, inl, inr}
use Rattle.tib_lex.specs.Lists.{Has, Distinct}
use Rattle.tib_transducer.specs.declared.Pair.{Pair}
use Rattle.tib_image.specs.Parsing.{span_at}
use Rattle.tib_lex.proofs.Numbers.{nat_eq_cases}

-- the state, the two places and the restriction of a key
abbrev pub state_of : ℕ × ℕ × ℕ × ℕ → ℕ
state_of k = k.0

abbrev pub span_of : ℕ × ℕ × ℕ × ℕ → ℕ × ℕ
span_of k = (k.1, k.2)

abbrev pub restriction_of : ℕ × ℕ × ℕ × ℕ → ℕ
restriction_of k = k.3

-- of pairs with distinct variables each is found by its variable
pub pairs_along :
    (xs : List (Pair ℕ)) (ss : List (ℕ × ℕ)) (g : ℕ → ℕ × ℕ × ℕ × ℕ) → Distinct (map (λ x. x.variable) xs) → length ss ≡ length xs →
    ((v : ℕ) → Has (map (λ x. x.variable) xs) v → ((g v).0 ≡ (span_at v xs ss).0) × ((g v).1 ≡ (span_at v xs ss).1) × ((g v).2 ≡ (span_at v xs ss).2)) →
    (map state_of (map g (map (λ x. x.variable) xs)) ≡ map (λ x. x.state) xs) × (map span_of (map g (map (λ x. x.variable) xs)) ≡ ss)
pairs_along [] [] g d e h = (refl, refl)
pairs_along [] (s ∷ ss) g d e h = absurd (omega arith)
pairs_along (x ∷ xs) [] g d e h = absurd (omega arith)
pairs_along (x ∷ xs) (s ∷ ss) g d e h =
    let first : ((g x.variable).0 ≡ x.state) × ((g x.variable).1 ≡ s.0) × ((g x.variable).2 ≡ s.1) = here (h x.variable (inl refl)) in
    let span : ◌≡◌ {A = ℕ × ℕ} (span_of (g x.variable)) s = ap (λ (n : ℕ). (n, (g x.variable).2)) first.1 ∙ ap (λ (n : ℕ). (s.0, n)) first.2 in
    let more = pairs_along xs ss g d.1 (omega arith) (λ v m. there v m (h v (inr m))) in
    (cc (first.0, more.0), cc (span, more.1))
  where
    here :
        ((g x.variable).0 ≡ (span_at x.variable (x ∷ xs) (s ∷ ss)).0) × ((g x.variable).1 ≡ (span_at x.variable (x ∷ xs) (s ∷ ss)).1) × ((g x.variable).2 ≡ (span_at x.variable (x ∷ xs) (s ∷ ss)).2) →
        ((g x.variable).0 ≡ x.state) × ((g x.variable).1 ≡ s.0) × ((g x.variable).2 ≡ s.1)
    here p = elim (nat_eq_cases x.variable x.variable) [ inl k ↦ rw k.1 at p | inr k ↦ absurd (k.0 refl) ]

    there :
        (v : ℕ) → Has (map (λ x. x.variable) xs) v →
        ((g v).0 ≡ (span_at v (x ∷ xs) (s ∷ ss)).0) × ((g v).1 ≡ (span_at v (x ∷ xs) (s ∷ ss)).1) × ((g v).2 ≡ (span_at v (x ∷ xs) (s ∷ ss)).2) →
        ((g v).0 ≡ (span_at v xs ss).0) × ((g v).1 ≡ (span_at v xs ss).1) × ((g v).2 ≡ (span_at v xs ss).2)
    there v m p = elim (nat_eq_cases v x.variable) [ inl k ↦ absurd (d.0 (subst (Has (map (λ x. x.variable) xs)) k.0 m)) | inr k ↦ rw k.1 at p ]
