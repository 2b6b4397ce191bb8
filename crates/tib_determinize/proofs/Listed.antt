-- The edges of a position are those of its candidates.
use Rattle.std.specs.Prelude.{◌≡◌, ℕ, ◌<◌, ◌≤◌, List, [], ◌∷◌, length, map, refl, Option, None, Some}
use Rattle.std.proofs.Common.{arith, ap, sym, subst, inl, inr}
use Rattle.tib_lex.specs.Lists.{Has, Each, Distinct, Along}
use Rattle.tib_grammar.specs.Sides.{holes, over}
use Rattle.tib_grammar.specs.Run.{rule_at}
use Rattle.tib_grammar.specs.declared.Rule.{Rule}
use Rattle.tib_grammar.proofs.Members.{each_has, each_of, has_at}
use Rattle.tib_expand.specs.EdgeLists.{Lists}
use Rattle.tib_determinize.specs.Vectors.{VectorOf, Rises, IsWeight, IsStepCost, IsStep, vector_at, vectors_at}
use Rattle.tib_determinize.specs.Determinization.{IsVectorSeed, IsVectorEdge}
use Rattle.tib_determinize.specs.Candidates.{AreHeld, IsCandidate, AreCandidates, AreMatched, AreLeafLabels, IsStepOf, ComputesSteps, edge_before, edges_from}

held_of : (product : ℕ → ℕ → ℕ) (qs : List ℕ) (vs : List VectorOf) (w : ℕ) → IsWeight product qs vs w → AreHeld qs vs
held_of product [] [] w h = tt
held_of product [] (v ∷ vs) w h = absurd h
held_of product (q ∷ qs) [] w h = absurd h
held_of product (q ∷ qs) (v ∷ vs) w h = ((h.residual, h.stands), held_of product qs vs h.others h.are)

-- what some rule matches has all candidates
pub matches_are_candidates :
    (product : ℕ → ℕ → ℕ) (rules : List (Rule ℕ)) (order : List VectorOf) (n : ℕ) (os : List (ℕ × List ℕ)) → AreMatched rules order n os → AreCandidates product rules order n os
matches_are_candidates product rules order n os m = record {
  once = m.once;
  each = m.each;
  whole = λ o c u is low.
      let s : IsStepCost product rules o.0 (vectors_at order o.1) is.0 u = is.1 in
      m.whole o c (record { rule = s.rule; below = s.below; root = s.root; held = held_of product (holes (rule_at rules s.rule).right.kids) (vectors_at order o.1) s.weight s.is_weight });
}

vectors_rise : (order : List VectorOf) (ps : List ℕ) → Each (λ v. Rises v) order → Each (λ p. p < length order) ps → Each (λ v. Rises v) (vectors_at order ps)
vectors_rise order [] all b = tt
vectors_rise order (p ∷ ps) all b = (each_has (λ v. Rises v) order (vector_at order p) all (has_at order p [] b.0), vectors_rise order ps all b.1)

lower : (n m : ℕ) → n < m → (ps : List ℕ) → Each (λ p. p ≤ n) ps → Each (λ p. p < m) ps
lower n m h [] e = tt
lower n m h (p ∷ ps) e = ((let low = e.0 in omega arith), lower n m h ps e.1)

abbrev Origin : Type 0
Origin = ℕ × List ℕ

-- edges by origins that fit, where an origin gives the step of its label
module _
    (product : ℕ → ℕ → ℕ) (rules : List (Rule ℕ)) (order : List VectorOf) (step : ℕ → List VectorOf → Option (ℕ × VectorOf)) (Fits : Origin → Type 0) (Gives : Origin → Rule VectorOf → Type 0)
    (step_at : (o : Origin) → Fits o → IsStepOf product rules o.0 (vectors_at order o.1) (step o.0 (vectors_at order o.1)))
    (to : (o : Origin) (m : ℕ) (v : VectorOf) → Fits o → IsStep product rules o.0 (vectors_at order o.1) m v → Gives o (record { left = v; right = over o.0 (vectors_at order o.1); cost = m }))
    (back : (o : Origin) (e : Rule VectorOf) → Gives o e → IsStep product rules o.0 (vectors_at order o.1) e.cost e.left) where
  -- the origins of the edges of some candidates
  record AreFrom (os : List Origin) : Type 0 where
    origins : List Origin
    once : Distinct origins
    among : (o : Origin) → Has origins o → Has os o
    given : Along Gives origins (edges_from step order os)
    whole : (o : Origin) (e : Rule VectorOf) → Has os o → Gives o e → Has origins o

  with_edge :
      (o : Origin) (os : List Origin) → Fits o → (Has os o → ⊥) → AreFrom os → (s : Option (ℕ × VectorOf)) → IsStepOf product rules o.0 (vectors_at order o.1) s →
      (origins : List Origin) × Distinct origins × ((x : Origin) → Has origins x → Has (o ∷ os) x)
      × Along Gives origins (edge_before order o s (edges_from step order os))
      × ((x : Origin) (e : Rule VectorOf) → Has (o ∷ os) x → Gives x e → Has origins x)
  with_edge o os c new more None is = (
    more.origins,
    more.once,
    λ x h. inr (more.among x h),
    more.given,
    λ x e h edge. elim h [
      | inl k ↦ absurd (is e.cost e.left (back o e (subst (λ (z : Origin). Gives z e) (sym k) edge)))
      | inr k ↦ more.whole x e k edge
    ],
  )
  with_edge o os c new more (Some s) is = (
    o ∷ more.origins,
    (λ h. new (more.among o h), more.once),
    λ x h. elim h [ inl e ↦ inl e | inr k ↦ inr (more.among x k) ],
    (to o s.0 s.1 c is, more.given),
    λ x e h edge. elim h [ inl k ↦ inl k | inr k ↦ inr (more.whole x e k edge) ],
  )

  from : (os : List Origin) → Distinct os → Each Fits os → AreFrom os
  from [] d each = record { origins = []; once = tt; among = λ o h. h; given = tt; whole = λ o e h edge. h }
  from (o ∷ os) d each =
      let w = with_edge o os each.0 d.0 (from os d.1 each.1) (step o.0 (vectors_at order o.1)) (step_at o each.0) in
      record { origins = w.0; once = w.1; among = w.2; given = w.3; whole = w.4 }

  all_listed : (os : List Origin) → Distinct os → Each Fits os → ((o : Origin) (e : Rule VectorOf) → Gives o e → Has os o) → Lists Gives (edges_from step order os)
  all_listed os d each whole =
      let f = from os d each in
      record { origins = f.origins; once = f.once; given = f.given; whole = λ o e edge. f.whole o e (whole o e edge) edge }

-- the steps of the candidates of a position are its edges
pub edges_are_listed :
    (product : ℕ → ℕ → ℕ) (rules : List (Rule ℕ)) (order : List VectorOf) (n : ℕ) (step : ℕ → List VectorOf → Option (ℕ × VectorOf)) → n < length order →
    Each (λ v. Rises v) order → ComputesSteps product rules step → (os : List Origin) → AreCandidates product rules order n os → Lists (IsVectorEdge product rules order n) (edges_from step order os)
edges_are_listed product rules order n step low all computes os c =
    all_listed product rules order step (IsCandidate n) (IsVectorEdge product rules order n)
    (λ o fits. computes o.0 (vectors_at order o.1) (vectors_rise order o.1 all (lower n (length order) low o.1 fits.up_to)))
    (λ o m v fits is. record { up_to = fits.up_to; stands = fits.stands; step = is; right = refl })
    (λ o e edge. edge.step)
    os c.once c.each
    (λ o e edge. c.whole o (record { up_to = edge.up_to; stands = edge.stands }) e.cost edge.step.least.attained.0 edge.step.least.attained.1)

-- seeds

abbrev leaf : ℕ → Origin
leaf f = (f, [])

leaf_back : (fs : List ℕ) (o : Origin) → Has (map leaf fs) o → Has fs o.0 × (o.1 ≡ [])
leaf_back [] o h = absurd h
leaf_back (f ∷ fs) o h = elim h [
  | inl e ↦ (inl (ap (λ (z : Origin). z.0) e), sym (ap (λ (z : Origin). z.1) e))
  | inr k ↦ let r = leaf_back fs o k in (inr r.0, r.1)
]

leaf_to : (fs : List ℕ) (f : ℕ) → Has fs f → Has (map leaf fs) (leaf f)
leaf_to [] f h = absurd h
leaf_to (g ∷ fs) f h = elim h [ inl e ↦ inl (ap leaf e) | inr k ↦ inr (leaf_to fs f k) ]

leaves_once : (fs : List ℕ) → Distinct fs → Distinct (map leaf fs)
leaves_once [] d = tt
leaves_once (f ∷ fs) d = (λ h. d.0 (leaf_back fs (leaf f) h).0, leaves_once fs d.1)

leaf_is : (o : Origin) → o.1 ≡ [] → leaf o.0 ≡ o
leaf_is o e = ap (λ (ps : List ℕ). (o.0, ps)) (sym e)

-- the steps of the labels over no vector are the seeds' edges
pub seeds_are_listed :
    (product : ℕ → ℕ → ℕ) (rules : List (Rule ℕ)) (fs : List ℕ) (step : ℕ → List VectorOf → Option (ℕ × VectorOf)) → ComputesSteps product rules step → AreLeafLabels product rules fs →
    Lists (IsVectorSeed product rules) (edges_from step [] (map leaf fs))
seeds_are_listed product rules fs step computes c =
    all_listed product rules [] step (λ o. o.1 ≡ []) (IsVectorSeed product rules)
    (λ o none. computes o.0 (vectors_at [] o.1) (subst (λ (ps : List ℕ). Each (λ v. Rises v) (vectors_at [] ps)) (sym none) tt))
    (λ o m v none is. record {
      none = none;
      step = subst (λ (ps : List ℕ). IsStep product rules o.0 (vectors_at [] ps) m v) none is;
      right = ap (λ (ps : List ℕ). over o.0 (vectors_at [] ps)) none;
    })
    (λ o e seed. subst (λ (ps : List ℕ). IsStep product rules o.0 (vectors_at [] ps) e.cost e.left) (sym seed.none) seed.step)
    (map leaf fs) (leaves_once fs c.once) (each_of (λ (o : Origin). o.1 ≡ []) (map leaf fs) (λ o h. (leaf_back fs o h).1))
    (λ o e seed. subst (Has (map leaf fs)) (leaf_is o seed.none) (leaf_to fs o.0 (c.whole o.0 e.cost seed.step.least.attained.0 seed.step.least.attained.1)))
