-- The edges that were listed are those of the position.
use Rattle.std.specs.Prelude.{◌≡◌, ℕ, List, [], ◌∷◌, map, refl}
use Rattle.std.proofs.Common.{ap, sym, ◌∙◌, subst, inl, inr}
use Rattle.tib_lex.specs.Lists.{Has, Each, Distinct, Along}
use Rattle.tib_grammar.specs.Sides.{over}
use Rattle.tib_grammar.specs.declared.Rule.{Rule}
use Rattle.tib_expand.specs.EdgeLists.{Lists}
use Rattle.tib_determinize.specs.Vectors.{VectorOf, IsStep, vectors_at}
use Rattle.tib_determinize.specs.Determinization.{IsVectorSeed, IsVectorEdge}
use Rattle.tib_determinize.specs.Candidates.{IsCandidate, AreCandidates}
use Rattle.tib_determinize.specs.Stepped.{Stepped, HasNoStep, IsSteppedAt, AreSteps}

-- the edge over keys
abbrev pub edge_of : List VectorOf → Stepped → Rule VectorOf
edge_of order e = record { left = e.vector; right = over e.label (vectors_at order e.positions); cost = e.cost }

module _ (product : ℕ → ℕ → ℕ) (rules : List (Rule ℕ)) (order : List VectorOf) where
  -- the origins of edges, of those that were tried
  pub record AreOrigins (os origins : List (ℕ × List ℕ)) (es : List Stepped) : Type 0 where
    pub once : Distinct origins
    pub among : (o : ℕ × List ℕ) → Has origins o → Has os o
    pub given : Along (IsSteppedAt product rules order) origins es
    pub whole : (o : ℕ × List ℕ) (m : ℕ) (v : VectorOf) → Has os o → IsStep product rules o.0 (vectors_at order o.1) m v → Has origins o

  no_step : (o : ℕ × List ℕ) (m : ℕ) (v : VectorOf) → HasNoStep product rules order o → IsStep product rules o.0 (vectors_at order o.1) m v → ⊥
  no_step o m v n is = n is.least.attained.0.0 m is.least.attained.0.1 is.least.attained.1

  pub origins_of : (os : List (ℕ × List ℕ)) (es : List Stepped) → Distinct os → AreSteps product rules order os es → (origins : List (ℕ × List ℕ)) × AreOrigins os origins es
  origins_of [] es d a = ([], record { once = tt; among = λ o h. h; given = subst (Along (IsSteppedAt product rules order) []) (sym a) tt; whole = λ o m v h is. h })
  origins_of (o ∷ os) es d (inl h) =
      let r = origins_of os es d.1 h.1 in (
        r.0,
        record {
          once = r.1.once;
          among = λ x k. inr (r.1.among x k);
          given = r.1.given;
          whole = λ x m v k is. elim k [ inl e ↦ absurd (no_step o m v h.0 (subst (λ (y : ℕ × List ℕ). IsStep product rules y.0 (vectors_at order y.1) m v) (sym e) is)) | inr t ↦ r.1.whole x m v t is ];
        },
      )
  origins_of (o ∷ os) es d (inr h) =
      let r = origins_of os h.1 d.1 h.4 in (
        o ∷ r.0,
        record {
          once = (λ k. d.0 (r.1.among o k), r.1.once);
          among = λ x k. elim k [ inl e ↦ inl e | inr t ↦ inr (r.1.among x t) ];
          given = subst (Along (IsSteppedAt product rules order) (o ∷ r.0)) (sym h.2) (h.3, r.1.given);
          whole = λ x m v k is. elim k [ inl e ↦ inl e | inr t ↦ inr (r.1.whole x m v t is) ];
        },
      )

  along_map :
      (Gives : ℕ × List ℕ → Rule VectorOf → Type 0) (origins : List (ℕ × List ℕ)) (es : List Stepped) → ((o : ℕ × List ℕ) (e : Stepped) → Has origins o → IsSteppedAt product rules order o e → Gives o (edge_of order e)) →
      Along (IsSteppedAt product rules order) origins es → Along Gives origins (map (edge_of order) es)
  along_map Gives [] [] f a = tt
  along_map Gives [] (e ∷ es) f a = absurd a
  along_map Gives (o ∷ os) [] f a = absurd a
  along_map Gives (o ∷ os) (e ∷ es) f a = (f o e (inl refl) a.0, along_map Gives os es (λ x y h. f x y (inr h)) a.1)

  -- the edges of candidates are those of the position
  pub steps_listed : (n : ℕ) (os : List (ℕ × List ℕ)) (es : List Stepped) → AreCandidates product rules order n os → AreSteps product rules order os es → Lists (IsVectorEdge product rules order n) (map (edge_of order) es)
  steps_listed n os es c a =
      let r = origins_of os es c.once a in
      record {
        origins = r.0;
        once = r.1.once;
        given = along_map (IsVectorEdge product rules order n) r.0 es (λ o e h is. edge_is o e (candidate os o c.each (r.1.among o h)) is) r.1.given;
        whole = λ o e edge. r.1.whole o e.cost e.left (c.whole o (record { up_to = edge.up_to; stands = edge.stands }) e.cost edge.step.least.attained.0 edge.step.least.attained.1) edge.step;
      }
    where
      candidate : (xs : List (ℕ × List ℕ)) (o : ℕ × List ℕ) → Each (IsCandidate n) xs → Has xs o → IsCandidate n o
      candidate [] o e h = absurd h
      candidate (x ∷ xs) o e h = elim h [ inl s ↦ subst (IsCandidate n) s e.0 | inr k ↦ candidate xs o e.1 k ]

      edge_is : (o : ℕ × List ℕ) (e : Stepped) → IsCandidate n o → IsSteppedAt product rules order o e → IsVectorEdge product rules order n o (edge_of order e)
      edge_is o e c is = record {
        up_to = c.up_to;
        stands = c.stands;
        step = is.step;
        right = ap (λ f. over f (vectors_at order e.positions)) is.label ∙ ap (λ (ps : List ℕ). over o.0 (vectors_at order ps)) is.positions;
      }

  -- the edges of the labels of rank 0 are those of the seeds
  pub leaf_steps_listed :
      (os : List (ℕ × List ℕ)) (es : List Stepped) → Distinct os → ((o : ℕ × List ℕ) → Has os o → o.1 ≡ []) → ((o : ℕ × List ℕ) (m : ℕ) (v : VectorOf) → o.1 ≡ [] → IsStep product rules o.0 [] m v → Has os o) →
      AreSteps product rules order os es → Lists (IsVectorSeed product rules) (map (edge_of order) es)
  leaf_steps_listed os es once empty whole a =
      let r = origins_of os es once a in
      record {
        origins = r.0;
        once = r.1.once;
        given = along_map (IsVectorSeed product rules) r.0 es (λ o e h is. seed_is o e (empty o (r.1.among o h)) is) r.1.given;
        whole = λ o e seed. r.1.whole o e.cost e.left (whole o e.cost e.left seed.none seed.step) (subst (λ (ps : List ℕ). IsStep product rules o.0 (vectors_at order ps) e.cost e.left) (sym seed.none) seed.step);
      }
    where
      seed_is : (o : ℕ × List ℕ) (e : Stepped) → o.1 ≡ [] → IsSteppedAt product rules order o e → IsVectorSeed product rules o (edge_of order e)
      seed_is o e empty_list is = record {
        none = empty_list;
        step = subst (λ (ps : List ℕ). IsStep product rules o.0 (vectors_at order ps) e.cost e.vector) empty_list is.step;
        right = ap (λ f. over f (vectors_at order e.positions)) is.label ∙ ap (λ (ps : List ℕ). over o.0 (vectors_at order ps)) (is.positions ∙ empty_list);
      }
