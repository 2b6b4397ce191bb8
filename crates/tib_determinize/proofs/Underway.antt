-- Edges that are listed one after another.
use Rattle.std.specs.Prelude.{◌≡◌, ℕ, ◌+◌, ◌<◌, List, [], ◌∷◌, ◌++◌, length, map, refl}
use Rattle.std.proofs.Common.{suc, arith, ap, sym, ◌∙◌, subst, inl, inr, append_assoc, append-nil}
use Rattle.tib_lex.specs.Lists.{Has, total}
use Rattle.tib_grammar.specs.declared.Rule.{Rule}
use Rattle.tib_determinize.specs.VectorRules.{placed_rule}
use Rattle.tib_determinize.specs.declared.listing.VectorListing.{VectorListing}
use Rattle.tib_determinize.specs.Vectors.{VectorOf, IsStep, vectors_at}
use Rattle.tib_determinize.specs.Stepped.{Stepped, stepped_parts, rules_from, IsListing, IsAdded, HasNoStep, AreSteps, IsUnderway, AddsSteps, StepsOverrun}

map_append : {A B : Type 0} (g : A → B) (xs ys : List A) → map g (xs ++ ys) ≡ map g xs ++ map g ys
map_append g [] ys = refl
map_append g (x ∷ xs) ys = ap (λ zs. g x ∷ zs) (map_append g xs ys)

-- the parts of edges and of one more
pub total_more : (es : List Stepped) (e : Stepped) → total stepped_parts (es ++ e ∷ []) ≡ total stepped_parts es + stepped_parts e
total_more [] e = omega arith
total_more (x ∷ es) e = let n = total_more es e in omega (arith, n)

rules_more : (i : ℕ) (es : List Stepped) (e : Stepped) →
    rules_from i (es ++ e ∷ []) ≡ rules_from i es ++ record { end = i + length es; label = e.label; positions = e.positions; cost = e.cost } ∷ []
rules_more i [] e = let same : i ≡ i + 0 = omega arith in ap (λ n. record { end = n; label = e.label; positions = e.positions; cost = e.cost } ∷ []) same
rules_more i (x ∷ es) e =
    let same : suc i + length es ≡ i + suc (length es) = omega arith in
    ap (λ rs. record { end = i; label = x.label; positions = x.positions; cost = x.cost } ∷ rs)
    (rules_more (suc i) es e ∙ ap (λ n. rules_from (suc i) es ++ record { end = n; label = e.label; positions = e.positions; cost = e.cost } ∷ []) same)

-- a list with one more edge
pub listing_more :
    (old new : VectorListing) (es : List Stepped) (f : ℕ) (ps : List ℕ) (c : ℕ) (v : VectorOf) → IsListing old es → IsAdded f ps c v old new →
    IsListing new (es ++ record { label = f; positions = ps; cost = c; vector = v } ∷ [])
listing_more old new es f ps c v l a =
    let e : Stepped = record { label = f; positions = ps; cost = c; vector = v } in
    record {
      ends = a.ends ∙ ap (λ (vs : List VectorOf). vs ++ v ∷ []) l.ends ∙ sym (map_append (λ (x : Stepped). x.vector) es (e ∷ []));
      rules = a.rules
          ∙ ap (λ rs. rs ++ record { end = length old.ends.items; label = f; positions = ps; cost = c } ∷ []) l.rules
          ∙ ap (λ n. rules_from 0 es ++ record { end = n; label = f; positions = ps; cost = c } ∷ []) (ap length l.ends ∙ length-mapped es)
          ∙ sym (rules_more 0 es e);
      parts = a.parts ∙ ap (λ n. n + (2 + length ps)) l.parts ∙ sym (total_more es e);
    }
  where
    long : (xs : List Stepped) → length (map (λ (x : Stepped). x.vector) xs) ≡ length xs
    long [] = refl
    long (x ∷ xs) = ap suc (long xs)

    length-mapped : (xs : List Stepped) → length (map (λ (x : Stepped). x.vector) xs) ≡ 0 + length xs
    length-mapped xs = let z : length xs ≡ 0 + length xs = omega arith in long xs ∙ z

-- an empty list has no edges
pub listing_empty : (l : VectorListing) → length l.ends.items ≡ 0 → length l.rules.items ≡ 0 → l.parts ≡ 0 → IsListing l []
listing_empty l e r p = record { ends = none l.ends.items e; rules = ap (map placed_rule) (none l.rules.items r); parts = p }
  where
    none : {A : Type 0} (xs : List A) → length xs ≡ 0 → xs ≡ []
    none [] e = refl
    none (x ∷ xs) e = absurd (omega arith)

module _ (product : ℕ → ℕ → ℕ) (rules : List (Rule ℕ)) (order : List VectorOf) where
  -- the edges of two lists of labels and positions, one after the other
  pub steps_append : (os more : List (ℕ × List ℕ)) (es fs : List Stepped) → AreSteps product rules order os es → AreSteps product rules order more fs → AreSteps product rules order (os ++ more) (es ++ fs)
  steps_append [] more es fs a b = subst (λ xs. AreSteps product rules order more (xs ++ fs)) (sym a) b
  steps_append (o ∷ os) more es fs (inl h) b = inl (h.0, steps_append os more es fs h.1 b)
  steps_append (o ∷ os) more es fs (inr h) b = inr (h.0, h.1 ++ fs, ap (λ (xs : List Stepped). xs ++ fs) h.2, h.3, steps_append os more h.1 fs h.4 b)

  -- no edges, where none has a step
  pub steps_none : (os : List (ℕ × List ℕ)) → ((o : ℕ × List ℕ) → Has os o → HasNoStep product rules order o) → AreSteps product rules order os []
  steps_none [] f = refl
  steps_none (o ∷ os) f = inl (f o (inl refl), steps_none os (λ x h. f x (inr h)))

  -- and back
  pub steps_split :
      (os more : List (ℕ × List ℕ)) (es : List Stepped) → AreSteps product rules order (os ++ more) es →
      (fs : List Stepped) × (gs : List Stepped) × (es ≡ fs ++ gs) × AreSteps product rules order os fs × AreSteps product rules order more gs
  steps_split [] more es a = ([], es, refl, refl, a)
  steps_split (o ∷ os) more es (inl h) = let r = steps_split os more es h.1 in (r.0, r.1, r.2, inl (h.0, r.3), r.4)
  steps_split (o ∷ os) more es (inr h) =
      let r = steps_split os more h.1 h.4 in (
        h.0 ∷ r.0,
        r.1,
        h.2 ∙ ap (λ (xs : List Stepped). h.0 ∷ xs) r.2,
        inr (h.0, r.0, refl, h.3, r.3),
        r.4,
      )

  abbrev Tries : Type 0
  Tries = List (ℕ × List ℕ)

  module _ (all : Tries) (old : VectorListing) where
    -- nothing was tried
    pub underway_begins : IsUnderway product rules order all all old old
    underway_begins es l = ([], subst (IsListing old) (sym (append-nil es)) l, λ rest a. a)

    -- what is tried next has no steps
    pub underway_skips :
        (now : VectorListing) (front remaining : Tries) → AreSteps product rules order front [] → IsUnderway product rules order all (front ++ remaining) old now →
        IsUnderway product rules order all remaining old now
    underway_skips now front remaining none u es l =
        let r = u es l in
        (r.0, r.1, λ rest a. r.2 rest (steps_append front remaining [] rest none a))

    -- what is tried next is under way itself
    pub underway_goes_on :
        (mid now : VectorListing) (front left remaining : Tries) → IsUnderway product rules order all (front ++ remaining) old mid → IsUnderway product rules order front left mid now →
        IsUnderway product rules order all (left ++ remaining) old now
    underway_goes_on mid now front left remaining u n es l =
        let r = u es l in
        let s = n (es ++ r.0) r.1 in (
          r.0 ++ s.0,
          subst (IsListing now) (append_assoc es r.0 s.0) s.1,
          λ rest a. go r s rest a,
        )
      where
        go :
            (r : (done : List Stepped) × IsListing mid (es ++ done) × ((rest : List Stepped) → AreSteps product rules order (front ++ remaining) rest → AreSteps product rules order all (done ++ rest))) →
            (s : (done : List Stepped) × IsListing now ((es ++ r.0) ++ done) × ((rest : List Stepped) → AreSteps product rules order left rest → AreSteps product rules order front (done ++ rest))) →
            (rest : List Stepped) → AreSteps product rules order (left ++ remaining) rest → AreSteps product rules order all ((r.0 ++ s.0) ++ rest)
        go r s rest a =
            let p = steps_split left remaining rest a in
            subst (AreSteps product rules order all) (sym (append_assoc r.0 s.0 rest))
            (r.2 (s.0 ++ rest)
            (subst (AreSteps product rules order (front ++ remaining)) (append_assoc s.0 p.0 p.1 ∙ ap (λ (xs : List Stepped). s.0 ++ xs) (sym p.2))
            (steps_append front remaining (s.0 ++ p.0) p.1 (s.2 p.0 p.3) p.4)))

    -- what is tried next is done
    pub underway_next :
        (mid now : VectorListing) (front remaining : Tries) → IsUnderway product rules order all (front ++ remaining) old mid → AddsSteps product rules order front mid now →
        IsUnderway product rules order all remaining old now
    underway_next mid now front remaining u n = underway_goes_on mid now front [] remaining u n

    -- what is tried next has too many parts
    pub overrun_next :
        (mid : VectorListing) (front remaining : Tries) → old.budget ≡ mid.budget → IsUnderway product rules order all (front ++ remaining) old mid → StepsOverrun product rules order front mid →
        StepsOverrun product rules order all old
    overrun_next mid front remaining same u n es l =
        let r = u es l in
        let s = n (es ++ r.0) r.1 in (
          r.0 ++ s.0,
          s.1 ++ remaining,
          subst (λ (xs : List Stepped). old.budget < total stepped_parts xs) (append_assoc es r.0 s.0) (subst (λ b. b < total stepped_parts ((es ++ r.0) ++ s.0)) (sym same) s.2),
          λ rest a. go r.0 r.2 s.0 s.1 s.3 rest a,
        )
      where
        go :
            (done : List Stepped) → ((rest : List Stepped) → AreSteps product rules order (front ++ remaining) rest → AreSteps product rules order all (done ++ rest)) →
            (more : List Stepped) (left : Tries) → ((rest : List Stepped) → AreSteps product rules order left rest → AreSteps product rules order front (more ++ rest)) →
            (rest : List Stepped) → AreSteps product rules order (left ++ remaining) rest → AreSteps product rules order all ((done ++ more) ++ rest)
        go done f more left g rest a =
            let p = steps_split left remaining rest a in
            subst (AreSteps product rules order all) (sym (append_assoc done more rest))
            (f (more ++ rest)
            (subst (AreSteps product rules order (front ++ remaining)) (append_assoc more p.0 p.1 ∙ ap (λ (xs : List Stepped). more ++ xs) (sym p.2))
            (steps_append front remaining (more ++ p.0) p.1 (g p.0 p.3) p.4)))

  -- one that has no step
  pub adds_none : (o : ℕ × List ℕ) (old : VectorListing) → HasNoStep product rules order o → AddsSteps product rules order (o ∷ []) old old
  adds_none o old none es l = ([], subst (IsListing old) (sym (append-nil es)) l, λ rest a. inl (none, a))

  -- one that has its step
  pub adds_one :
      (f : ℕ) (ps : List ℕ) (c : ℕ) (v : VectorOf) (old new : VectorListing) → IsStep product rules f (vectors_at order ps) c v → IsAdded f ps c v old new →
      AddsSteps product rules order ((f, ps) ∷ []) old new
  adds_one f ps c v old new is a es l = (
    record { label = f; positions = ps; cost = c; vector = v } ∷ [],
    listing_more old new es f ps c v l a,
    λ rest none. inr (record { label = f; positions = ps; cost = c; vector = v }, rest, refl, record { label = refl; positions = refl; step = is }, none),
  )

  -- one whose step has too many parts
  pub overrun_one :
      (f : ℕ) (ps : List ℕ) (c : ℕ) (v : VectorOf) (old : VectorListing) → IsStep product rules f (vectors_at order ps) c v → old.budget < old.parts + (2 + length ps) →
      StepsOverrun product rules order ((f, ps) ∷ []) old
  overrun_one f ps c v old is more es l =
      let e : Stepped = record { label = f; positions = ps; cost = c; vector = v } in
      let sum = total_more es e in (
        e ∷ [],
        [],
        (let parts = l.parts in omega (arith, more, parts, sum)),
        λ rest none. inr (e, rest, refl, record { label = refl; positions = refl; step = is }, none),
      )
