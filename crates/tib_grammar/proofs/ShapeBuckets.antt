-- What buckets by shapes become when one of them gets a position, or a shape gets its number.
use Rattle.std.specs.Prelude.{◌≡◌, ℕ, ◌⊎◌, nat_eq, true, false, ◌<◌, List, [], ◌∷◌, ◌++◌, length, Option, None, Some, if◌then◌else◌, refl, ◌+◌, cond}
use Rattle.std.specs.Global.{Vec}
use Rattle.std.proofs.Common.{ap, inl, inr, get_or, sym, ◌∙◌, arith, set}
use Rattle.std.proofs.lemmas.List.{get_or-set_same, get_or-set_other, map-set, length-map}
use Rattle.tib_lex.proofs.Booleans.{and-both, and-first, and-second}
use Rattle.tib_lex.proofs.Numbers.{nat_eq_cases}
use Rattle.tib_grammar.specs.ShapeBuckets.{same_shape, bucket_at, lists_of}

-- two shapes are the same or not, as the test says
pub same_shape_cases : (s t : ℕ × ℕ × ℕ) → ((s ≡ t) × (same_shape s t ≡ true)) ⊎ ((s ≡ t → ⊥) × (same_shape s t ≡ false))
same_shape_cases s t = elim (nat_eq_cases s.0 t.0) [
  | inl h ↦ elim (nat_eq_cases s.1 t.1) [
    | inl k ↦ elim (nat_eq_cases s.2 t.2) [
      | inl l ↦ inl (triple h.0 k.0 l.0, and-both _ _ (and-both _ _ h.1 k.1) l.1)
      | inr l ↦ inr (λ e. l.0 (ap (λ x. x.2) e), and-second (and-both _ _ h.1 k.1) l.1)
    ]
    | inr k ↦ inr (λ e. k.0 (ap (λ x. x.1) e), and-first (nat_eq s.2 t.2) (and-second h.1 k.1))
  ]
  | inr h ↦ inr (λ e. h.0 (ap (λ x. x.0) e), and-first (nat_eq s.2 t.2) (and-first (nat_eq s.1 t.1) h.1))
]
  where
    triple : {a b c d e f : ℕ} → a ≡ b → c ≡ d → e ≡ f → ◌≡◌ {A = ℕ × ℕ × ℕ} (a, c, e) (b, d, f)
    triple e k l = rw (e, k, l)

-- one bucket grows, and the others stay
pub held-set :
    (look : ℕ × ℕ × ℕ → Option ℕ) (buckets : List (Vec ℕ)) (s : ℕ × ℕ × ℕ) (i k : ℕ) (v : Vec ℕ) → look s ≡ Some i → i < length buckets →
    ((t : ℕ × ℕ × ℕ) → look t ≡ Some i → s ≡ t) → v.items ≡ get_or (lists_of buckets) i [] ++ k ∷ [] → (t : ℕ × ℕ × ℕ) →
    bucket_at (lists_of (set buckets i v)) (look t) ≡ (if same_shape s t then bucket_at (lists_of buckets) (look t) ++ k ∷ [] else bucket_at (lists_of buckets) (look t))
held-set look buckets s i k v e h apart is t = elim (same_shape_cases s t) [
  | inl y ↦
      let at : look t ≡ Some i = ap look (sym y.0) ∙ e in
      rw (y.1, at, map-set (λ (b : Vec ℕ). b.items) buckets i v, get_or-set_same (lists_of buckets) i v.items [] (omega (arith, length-map buckets (λ (b : Vec ℕ). b.items)))) is
  | inr n ↦ rw n.1 (other (look t) refl n.0)
]
  where
    other : (o : Option ℕ) → look t ≡ o → (s ≡ t → ⊥) → bucket_at (lists_of (set buckets i v)) o ≡ bucket_at (lists_of buckets) o
    other None at differ = refl
    other (Some j) at differ =
        rw (map-set (λ (b : Vec ℕ). b.items) buckets i v)
        (get_or-set_other (lists_of buckets) i j v.items [] (λ (same : j ≡ i). differ (apart t (at ∙ ap Some same))))

-- a new shape with a new bucket
pub numbered-new :
    (look new : ℕ × ℕ × ℕ → Option ℕ) (s : ℕ × ℕ × ℕ) (n : ℕ) → ((t : ℕ × ℕ × ℕ) → new t ≡ cond (same_shape s t) (Some n) (look t)) →
    ((t : ℕ × ℕ × ℕ) (i : ℕ) → look t ≡ Some i → i < n) → ((t u : ℕ × ℕ × ℕ) (i : ℕ) → look t ≡ Some i → look u ≡ Some i → t ≡ u) →
    ((t : ℕ × ℕ × ℕ) (i : ℕ) → new t ≡ Some i → i < n + 1) × ((t u : ℕ × ℕ × ℕ) (i : ℕ) → new t ≡ Some i → new u ≡ Some i → t ≡ u)
numbered-new look new s n e within apart = (λ t i h. below t i (sym (e t) ∙ h) (same_shape_cases s t), λ t u i h k. one t u i (sym (e t) ∙ h) (sym (e u) ∙ k) (same_shape_cases s t) (same_shape_cases s u))
  where
    fresh : (t : ℕ × ℕ × ℕ) (i : ℕ) → cond (same_shape s t) (Some n) (look t) ≡ Some i → same_shape s t ≡ true → i ≡ n
    fresh t i h b = let k : Some n ≡ Some i = rw b at h in cc k

    old : (t : ℕ × ℕ × ℕ) (i : ℕ) → cond (same_shape s t) (Some n) (look t) ≡ Some i → same_shape s t ≡ false → look t ≡ Some i
    old t i h b = rw b at h

    below : (t : ℕ × ℕ × ℕ) (i : ℕ) → cond (same_shape s t) (Some n) (look t) ≡ Some i → ((s ≡ t) × (same_shape s t ≡ true)) ⊎ ((s ≡ t → ⊥) × (same_shape s t ≡ false)) → i < n + 1
    below t i h (inl y) = omega (arith, fresh t i h y.1)
    below t i h (inr m) = omega (arith, within t i (old t i h m.1))

    one :
        (t u : ℕ × ℕ × ℕ) (i : ℕ) → cond (same_shape s t) (Some n) (look t) ≡ Some i → cond (same_shape s u) (Some n) (look u) ≡ Some i →
        ((s ≡ t) × (same_shape s t ≡ true)) ⊎ ((s ≡ t → ⊥) × (same_shape s t ≡ false)) → ((s ≡ u) × (same_shape s u ≡ true)) ⊎ ((s ≡ u → ⊥) × (same_shape s u ≡ false)) → t ≡ u
    one t u i h k (inl y) (inl z) = sym y.0 ∙ z.0
    one t u i h k (inl y) (inr m) = absurd (omega (arith, fresh t i h y.1, within u i (old u i k m.1)))
    one t u i h k (inr m) (inl z) = absurd (omega (arith, fresh u i k z.1, within t i (old t i h m.1)))
    one t u i h k (inr m) (inr l) = apart t u i (old t i h m.1) (old u i k l.1)
