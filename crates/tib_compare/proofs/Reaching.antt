-- Each vector that is reached has a tree.
use Rattle.std.specs.Prelude.{◌≡◌, ℕ, ◌<◌, ◌≤◌, max, List, [], ◌∷◌, ◌++◌, length, refl}
use Rattle.std.proofs.Common.{zero, suc, arith, ap, sym, ◌∙◌, subst, inl, inr}
use Rattle.tib_lex.specs.Lists.{Has, Each}
use Rattle.tib_lex.proofs.Lists.{each_append}
use Rattle.tib_lex.proofs.Members.{each_has, each_of, has_at}
use Rattle.tib_tree.specs.Trees.{Tree, Trees, none, tree, only}
use Rattle.tib_grammar.specs.Sides.{label, holes}
use Rattle.tib_grammar.specs.Run.{rule_at, IsCost}
use Rattle.tib_grammar.specs.Range.{AllBelow}
use Rattle.tib_grammar.specs.declared.Rule.{Rule}
use Rattle.tib_grammar.proofs.NormalRuns.{IsLeast-no_states, merge_all}
use Rattle.tib_grammar.proofs.Opening.{close_cost}
use Rattle.tib_cost.specs.Semiring.{boolean_laws}
use Rattle.tib_expand.specs.Reached.{AfterRounds}
use Rattle.tib_determinize.specs.Vectors.{VectorOf, IsStep, vector_at, vectors_at}
use Rattle.tib_determinize.specs.Determinization.{determinization, IsVectorEdge}
use Rattle.tib_determinize.specs.VectorGrammar.{IsVectorGrammar}
use Rattle.tib_determinize.specs.OneStep.{one_step}

module _ (rules : List (Rule ℕ)) (order : List VectorOf) (new : List (Rule ℕ)) (vectors : IsVectorGrammar max rules order new) where
  -- a run to the vector
  pub record HasTree (v : VectorOf) : Type 0 where
    pub position : ℕ
    pub below : position < length order
    pub is : vector_at order position ≡ v
    pub tree_of : Tree ℕ
    pub cost_of : ℕ
    pub run : IsCost max new (position ∷ []) (only tree_of) cost_of

  -- runs to some vectors, side by side
  record HaveTrees (vs : List VectorOf) : Type 0 where
    positions : List ℕ
    below : AllBelow (length order) positions
    are : vectors_at order positions ≡ vs
    trees_of : Trees ℕ
    cost_of : ℕ
    runs : IsCost max new positions trees_of cost_of

  have_trees : (vs : List VectorOf) → Each HasTree vs → HaveTrees vs
  have_trees [] e = record { positions = []; below = tt; are = refl; trees_of = none; cost_of = 0; runs = (IsLeast-no_states boolean_laws new).attained.0 }
  have_trees (v ∷ vs) e =
      let h : HasTree v = e.0 in
      let m = have_trees vs e.1 in
      record {
        positions = h.position ∷ m.positions;
        below = (h.below, m.below);
        are = ap (λ (w : VectorOf). w ∷ vectors_at order m.positions) h.is ∙ ap (λ (ws : List VectorOf). v ∷ ws) m.are;
        trees_of = tree h.tree_of.label h.tree_of.kids m.trees_of;
        cost_of = max h.cost_of m.cost_of;
        runs = merge_all boolean_laws new h.position m.positions h.tree_of.label h.tree_of.kids m.trees_of (max h.cost_of m.cost_of)
            (h.cost_of, m.cost_of, h.run, m.runs, refl {a = max h.cost_of m.cost_of});
      }

  -- a step over vectors that have trees makes one of its vector
  stepped : (f : ℕ) (vs : List VectorOf) → HaveTrees vs → (m : ℕ) (v : VectorOf) → IsStep max rules f vs m v → HasTree v
  stepped f vs h m v s =
      let step : IsStep max rules f (vectors_at order h.positions) m v = subst (λ (ws : List VectorOf). IsStep max rules f ws m v) (sym h.are) s in
      elim (vectors.complete f h.positions h.below) [
        | inl j ↦
            let c : ℕ = (rule_at new j.0).cost in
            let here : IsStep max rules f (vectors_at order h.positions) c (vector_at order (rule_at new j.0).left) =
            subst (λ (ps : List ℕ). IsStep max rules f (vectors_at order ps) c (vector_at order (rule_at new j.0).left)) j.3 (vectors.sound j.0 f j.1 j.2)
            in
            let d : ℕ = max (max c h.cost_of) 0 in
            record {
              position = (rule_at new j.0).left;
              below = (vectors.in_range j.0 j.1).0;
              is = (one_step max rules f (vectors_at order h.positions) c m (vector_at order (rule_at new j.0).left) v here step).1;
              tree_of = record { label = f; kids = h.trees_of };
              cost_of = d;
              run = close_cost boolean_laws new vectors.normal (rule_at new j.0).left [] f h.trees_of none d (record {
                rule = j.0;
                below = j.1;
                left = refl;
                root = j.2;
                inner = h.cost_of;
                outer = 0;
                kids_cost = subst (λ (ps : List ℕ). IsCost max new ps h.trees_of h.cost_of) (sym j.3) h.runs;
                rest_cost = (IsLeast-no_states boolean_laws new).attained.0;
                costs = refl {a = d};
              });
            }
        | inr nothing ↦ absurd (nothing step.least.attained.0.0 m step.least.attained.0.1 step.least.attained.1)
      ]

  -- vectors at positions of an order
  each_at : (old : List VectorOf) (i : ℕ) → i < length old → Each HasTree old → (ps : List ℕ) → Each (λ p. p ≤ i) ps → Each HasTree (vectors_at old ps)
  each_at old i low e [] u = tt
  each_at old i low e (p ∷ ps) u =
      let h : p < length old = omega (arith, u.0) in
      (each_has HasTree old (vector_at old p) e (has_at old p [] h), each_at old i low e ps u.1)

  -- after any number of rounds
  all_have : (rounds expanded : ℕ) (now : List VectorOf) → AfterRounds (determinization max rules) rounds expanded now → Each HasTree now
  all_have zero expanded now (start, first) =
      each_of HasTree now (λ v h. let s = (first.1 v).0 h in stepped s.0 [] (have_trees [] tt) s.1 v s.2)
  all_have (suc rounds) expanded now (old, first, new_ones, before, is, at, made) =
      let known : Each HasTree old = all_have rounds first old before in
      subst (λ (l : List VectorOf). Each HasTree l) (sym made) (each_append HasTree old new_ones known (each_of HasTree new_ones (λ v h. by known v ((is.1 v).0 h).0)))
    where
      by :
          Each HasTree old → (v : VectorOf) →
          ((i : ℕ) × (first ≤ i) × (i < length old) × ((o : ℕ × List ℕ) × (e : Rule VectorOf) × IsVectorEdge max rules old i o e × Has (e.left ∷ []) v)) → HasTree v
      by known v (i, low, high, (o, e, is_edge, ends)) =
          let h : HasTree e.left = stepped o.0 (vectors_at old o.1) (have_trees (vectors_at old o.1) (each_at old i high known o.1 is_edge.up_to)) e.cost e.left is_edge.step in
          elim ends [ inl k ↦ subst HasTree k h | inr k ↦ absurd k ]

  pub has_tree : (rounds expanded : ℕ) → AfterRounds (determinization max rules) rounds expanded order → (k : ℕ) → k < length order → HasTree (vector_at order k)
  has_tree rounds expanded after k low = each_has HasTree order (vector_at order k) (all_have rounds expanded order after) (has_at order k [] low)
