-- What `seeds` and `expand` return.
use Rattle.std.specs.Prelude.{◌≡◌, ◌↔◌, ℕ, ◌+◌, ◌<◌, ◌≤◌, Bool, List, [], ◌∷◌, ◌++◌, length, map, refl}
use Rattle.std.proofs.Common.{arith, ap, sym, ◌∙◌, subst, inl, inr}
use Rattle.tib_lex.specs.Lists.{Has, Each, Distinct, total}
use Rattle.tib_lex.proofs.Members.{has_either, has_left, has_right}
use Rattle.tib_grammar.specs.Sides.{holes, over}
use Rattle.tib_grammar.specs.Run.{rule_at}
use Rattle.tib_grammar.specs.Forms.{AreNormal}
use Rattle.tib_grammar.specs.declared.Rule.{Rule}
use Rattle.tib_cost.specs.Semiring.{ProductLaws}
use Rattle.tib_lex.proofs.Alongs.{along_of, total_fewer}
use Rattle.tib_lex.proofs.Numbers.{nat_eq_cases}
use Rattle.tib_expand.specs.EdgeLists.{Lists, AreListed, Exceeds, IsEnd}
use Rattle.tib_determinize.specs.declared.vector_rule.VectorRule.{VectorRule}
use Rattle.tib_determinize.specs.declared.listing.VectorListing.{VectorListing}
use Rattle.tib_determinize.specs.Vectors.{VectorOf, Rises, IsWeight, IsStepCost, IsStep}
use Rattle.tib_determinize.specs.Determinization.{IsSeed, IsVectorSeed, IsVectorEdge, ends_of, edge_parts}
use Rattle.tib_determinize.specs.VectorRules.{places_of, read_places}
use Rattle.tib_determinize.specs.Candidates.{IsCandidate}
use Rattle.tib_determinize.specs.Shapes.{shapes_in}
use Rattle.tib_determinize.specs.Tries.{leaf_try, leaf_tries, tries}
use Rattle.tib_determinize.specs.Stepped.{Stepped, stepped_parts, IsWithinBudget, AreSteps, HasSteps, StepsExceed}
use Rattle.tib_determinize.specs.OneStep.{determinization_laws}
use Rattle.tib_determinize.proofs.Edges.{IsInOrder, is_listed, ends_are, steps_there, parts_are}
use Rattle.tib_determinize.proofs.EdgesOf.{edge_of, steps_listed, leaf_steps_listed}
use Rattle.tib_determinize.proofs.ShapesOf.{shapes_are}
use Rattle.tib_determinize.proofs.TriedOnce.{tries_are_candidates}

total_both : (es fs : List Stepped) → total stepped_parts (es ++ fs) ≡ total stepped_parts es + total stepped_parts fs
total_both [] fs = omega arith
total_both (e ∷ es) fs = let r = total_both es fs in omega (arith, r)

module _ (product : ℕ → ℕ → ℕ) {levelled weighted : Bool} (laws : ProductLaws levelled weighted product) (rules : List (Rule ℕ)) where
  exceeds :
      (order : List VectorOf) → Each (λ v. Rises v) order → (Edge : ℕ × List ℕ → Rule VectorOf → Type 0) → ((o : ℕ × List ℕ) (e f : Rule VectorOf) → Edge o e → Edge o f → e ≡ f) → (os : List (ℕ × List ℕ)) →
      ((es : List Stepped) → AreSteps product rules order os es → Lists Edge (map (edge_of order) es)) → (budget : ℕ) → StepsExceed product rules order os budget → Exceeds Edge edge_parts budget
  exceeds order rise Edge one os listed budget x es lists =
      let rest = steps_there product laws rules order rise x.1 in
      let all : List Stepped = x.0 ++ rest.0 in
      let own = listed all (x.3 rest.0 rest.1) in
      let fewer = total_fewer Edge edge_parts one own.origins (map (edge_of order) all) lists.origins es own.once own.given lists.given
      (λ o h. let p = along_of Edge own.origins (map (edge_of order) all) o own.given h in lists.whole o p.0 p.1) in
      let sum = total_both x.0 rest.0 in
      let parts = parts_are order all in
      let more = x.2 in
      omega (arith, fewer, sum, parts, more)

  in_order :
      (order : List VectorOf) (os : List (ℕ × List ℕ)) (es : List Stepped) → ((o : ℕ × List ℕ) → Has os o → Each (λ p. p < length order) o.1) → AreSteps product rules order os es → Each (IsInOrder order) es
  in_order order [] es f a = subst (Each (IsInOrder order)) (sym a) tt
  in_order order (o ∷ os) es f (inl h) = in_order order os es (λ x k. f x (inr k)) h.1
  in_order order (o ∷ os) es f (inr h) =
      subst (Each (IsInOrder order)) (sym h.2) (subst (λ (ps : List ℕ). Each (λ p. p < length order) ps) (sym h.3.positions) (f o (inl refl)), in_order order os h.1 (λ x k. f x (inr k)) h.4)

  module _ (normal : AreNormal rules) (order : List VectorOf) (n : ℕ) (low : n < length order) where
    one_edge : (o : ℕ × List ℕ) (e f : Rule VectorOf) → IsVectorEdge product rules order n o e → IsVectorEdge product rules order n o f → e ≡ f
    one_edge o e f a b = (determinization_laws product rules).one_edge order n o e f a b

    edges_listed : (es : List Stepped) → AreSteps product rules order (tries n (shapes_in rules)) es → Lists (IsVectorEdge product rules order n) (map (edge_of order) es)
    edges_listed es a = steps_listed product rules order n (tries n (shapes_in rules)) es (tries_are_candidates product rules order n (shapes_in rules) (shapes_are rules normal)) a

    tried_in_order : (o : ℕ × List ℕ) → Has (tries n (shapes_in rules)) o → Each (λ p. p < length order) o.1
    tried_in_order o h =
        let c = candidate (tries n (shapes_in rules)) o (tries_are_candidates product rules order n (shapes_in rules) (shapes_are rules normal)).each h in
        lower o.1 c.up_to
      where
        candidate : (xs : List (ℕ × List ℕ)) (o : ℕ × List ℕ) → Each (IsCandidate n) xs → Has xs o → IsCandidate n o
        candidate [] o e h = absurd h
        candidate (x ∷ xs) o e h = elim h [ inl s ↦ subst (IsCandidate n) s e.0 | inr k ↦ candidate xs o e.1 k ]

        lower : (ps : List ℕ) → Each (λ p. p ≤ n) ps → Each (λ p. p < length order) ps
        lower [] h = tt
        lower (p ∷ ps) h = ((let l = h.0 in omega (arith, l, low)), lower ps h.1)

    -- the edges of a position
    pub expand_listed :
        (l : VectorListing) (ends : List VectorOf) (rs : List VectorRule) (parts : ℕ) → HasSteps product rules order (tries n (shapes_in rules)) l → IsWithinBudget l → ends ≡ l.ends.items → rs ≡ l.rules.items → parts ≡ l.parts →
        AreListed (IsVectorEdge product rules order n) edge_parts places_of read_places order ends rs parts
    expand_listed l ends rs parts h within e r p =
        is_listed (IsVectorEdge product rules order n) order ends rs parts l h.0 h.1 within e r p (in_order order (tries n (shapes_in rules)) h.0 tried_in_order h.2) (edges_listed h.0 h.2)

    -- their ends
    pub expand_ends :
        (l : VectorListing) (ends : List VectorOf) → HasSteps product rules order (tries n (shapes_in rules)) l → ends ≡ l.ends.items → (k : VectorOf) → Has ends k ↔ IsEnd (IsVectorEdge product rules order n) ends_of k
    expand_ends l ends h e k = ends_are (IsVectorEdge product rules order n) one_edge order h.0 ends (e ∙ h.1.ends) (edges_listed h.0 h.2) k

    -- that they have more parts than the budget
    pub expand_exceeds : Each (λ v. Rises v) order → (budget : ℕ) → StepsExceed product rules order (tries n (shapes_in rules)) budget → Exceeds (IsVectorEdge product rules order n) edge_parts budget
    expand_exceeds rise budget x = exceeds order rise (IsVectorEdge product rules order n) one_edge (tries n (shapes_in rules)) edges_listed budget x

  leaf_is : (shapes : List (ℕ × ℕ)) (o : ℕ × List ℕ) → Has (leaf_tries shapes) o → (o.1 ≡ []) × Has {A = ℕ × ℕ} shapes (o.0, 0)
  leaf_is [] o h = absurd h
  leaf_is (s ∷ shapes) o h = elim (has_either (leaf_try s) (leaf_tries shapes) o h) [
    | inl m ↦ elim (nat_eq_cases s.1 0) [
      | inl z ↦ elim (rw z.1 at m) [
        | inl e ↦ (sym (ap (λ (x : ℕ × List ℕ). x.1) e), inl (ap (λ k. (s.0, k)) z.0 ∙ ap (λ (x : ℕ × List ℕ). (x.0, 0)) e))
        | inr k ↦ absurd k
      ]
      | inr z ↦ absurd (rw z.1 at m)
    ]
    | inr m ↦ let r = leaf_is shapes o m in (r.0, inr r.1)
  ]

  is_leaf : (shapes : List (ℕ × ℕ)) (f : ℕ) → Has {A = ℕ × ℕ} shapes (f, 0) → Has {A = ℕ × List ℕ} (leaf_tries shapes) (f, [])
  is_leaf [] f h = absurd h
  is_leaf (s ∷ shapes) f h = elim h [
    | inl e ↦ has_left (leaf_try s) (leaf_tries shapes) (f, []) (subst (λ (x : ℕ × ℕ). Has {A = ℕ × List ℕ} (leaf_try x) (f, [])) (sym e) (inl refl))
    | inr m ↦ has_right (leaf_try s) (leaf_tries shapes) (f, []) (is_leaf shapes f m)
  ]

  leaves_once : (shapes : List (ℕ × ℕ)) → Distinct shapes → Distinct (leaf_tries shapes)
  leaves_once [] d = tt
  leaves_once (s ∷ shapes) d = elim (nat_eq_cases s.1 0) [
    | inl z ↦ rw z.1 ((λ h. let l = leaf_is shapes (s.0, []) h in d.0 (subst (λ k. Has {A = ℕ × ℕ} shapes (s.0, k)) (sym z.0) l.1)), leaves_once shapes d.1)
    | inr z ↦ rw z.1 (leaves_once shapes d.1)
  ]

  module _ (normal : AreNormal rules) where
    seeds_listed : (es : List Stepped) → AreSteps product rules [] (leaf_tries (shapes_in rules)) es → Lists (IsVectorSeed product rules) (map (edge_of []) es)
    seeds_listed es a =
        leaf_steps_listed product rules [] (leaf_tries (shapes_in rules)) es (leaves_once (shapes_in rules) (shapes_are rules normal).once) (λ o h. (leaf_is (shapes_in rules) o h).0)
        (λ o m v e is.
        let s : IsStepCost product rules o.0 [] is.least.attained.0.0 m = is.least.attained.0.1 in
        let has = (shapes_are rules normal).whole s.rule o.0 s.below s.root in
        subst (λ (ps : List ℕ). Has {A = ℕ × List ℕ} (leaf_tries (shapes_in rules)) (o.0, ps)) (sym e)
        (is_leaf (shapes_in rules) o.0 (subst (λ k. Has {A = ℕ × ℕ} (shapes_in rules) (o.0, k)) (no_states (holes (rule_at rules s.rule).right.kids) s.weight s.is_weight) has)))
        a
      where
        no_states : (qs : List ℕ) (w : ℕ) → IsWeight product qs [] w → length qs ≡ 0
        no_states [] w h = refl
        no_states (q ∷ qs) w h = absurd h

    one_seed : (o : ℕ × List ℕ) (e f : Rule VectorOf) → IsVectorSeed product rules o e → IsVectorSeed product rules o f → e ≡ f
    one_seed o e f a b = (determinization_laws product rules).one_seed_edge o e f a b

    -- the edges of the seeds
    pub seed_edges_listed :
        (l : VectorListing) (ends : List VectorOf) (rs : List VectorRule) (parts : ℕ) → HasSteps product rules [] (leaf_tries (shapes_in rules)) l → IsWithinBudget l → ends ≡ l.ends.items → rs ≡ l.rules.items → parts ≡ l.parts →
        AreListed (IsVectorSeed product rules) edge_parts places_of read_places [] ends rs parts
    seed_edges_listed l ends rs parts h within e r p =
        is_listed (IsVectorSeed product rules) [] ends rs parts l h.0 h.1 within e r p
        (in_order [] (leaf_tries (shapes_in rules)) h.0 (λ o m. subst (λ (ps : List ℕ). Each (λ q. q < 0) ps) (sym (leaf_is (shapes_in rules) o m).0) tt) h.2) (seeds_listed h.0 h.2)

    -- their ends are the seeds
    pub seed_ends : (l : VectorListing) (ends : List VectorOf) → HasSteps product rules [] (leaf_tries (shapes_in rules)) l → ends ≡ l.ends.items → (k : VectorOf) → Has ends k ↔ IsSeed product rules k
    seed_ends l ends h e k =
        let both = ends_are (IsVectorSeed product rules) one_seed [] h.0 ends (e ∙ h.1.ends) (seeds_listed h.0 h.2) k in (
          λ m. let x = both.0 m in elim x.3 [ inl s ↦ (x.0.0, x.1.cost, subst (λ w. IsStep product rules x.0.0 [] x.1.cost w) s x.2.step) | inr z ↦ absurd z ],
          λ s. both.1 ((s.0, []), record { left = k; right = over s.0 []; cost = s.1 }, record { none = refl; step = s.2; right = refl }, inl refl),
        )

    -- that they have more parts than the budget
    pub seeds_exceed : (budget : ℕ) → StepsExceed product rules [] (leaf_tries (shapes_in rules)) budget → Exceeds (IsVectorSeed product rules) edge_parts budget
    seeds_exceed budget x = exceeds [] tt (IsVectorSeed product rules) one_seed (leaf_tries (shapes_in rules)) seeds_listed budget x
