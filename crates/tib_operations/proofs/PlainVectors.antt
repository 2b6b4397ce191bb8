-- The edges between vectors, and the residuals in these, can be printed.
use Rattle.tib_cost.specs.declared.Scale.{Scale}
use Rattle.tib_cost.specs.declared.Scale.TheVariants as scales
use Rattle.std.proofs.Common.{Bool, ◌≡◌, ℕ, ◌+◌, ◌<◌, ◌≤◌, zero, suc, List, [], ◌∷◌, ◌++◌, length, map, refl, ap, sym, ◌∙◌, subst, arith, inl, inr, is_eq}
use Rattle.std.specs.Prelude.{Option, None, Some}
use Rattle.std.specs.declared.cmp.Ordering.TheVariants.{Equal}
use Rattle.tib_lex.specs.Lists.{Has, Each}
use Rattle.tib_lex.proofs.Lists.{has_mapped, each_append, each_weaker}
use Rattle.tib_lex.proofs.Members.{has_at, each_has, each_of, has_left}
use Rattle.tib_cost.specs.Semiring.{ProductLaws, most, IsResidual}
use Rattle.tib_tree.specs.Trees.{Trees, none, tree, only, relabel}
use Rattle.tib_grammar.specs.GrammarOf.{GrammarOf}
use Rattle.tib_grammar.specs.Run.{rule_at}
use Rattle.tib_grammar.specs.Sides.{Symbol, label, Side as SideFor, HolesAreLeaves, holes_of, leaves, over, symbol_map}
use Rattle.tib_grammar.specs.Range.{AllBelow}
use Rattle.tib_grammar.specs.declared.Rule.{Rule}
use Rattle.tib_grammar.proofs.Sides.{holes_of-over}
use Rattle.tib_grammar_file.specs.Printable.{IsPlainCost, HavePlainLabels, ArePrintable}
use Rattle.tib_expand.specs.Reached.{AfterRounds, IsReached, IsReachedSet}
use Rattle.tib_canon.proofs.ConstructionExists.{IsEdgeOver, HasPlainEdges, IsPlainFresh}
use Rattle.tib_canon.proofs.ReachedOnce.{edge_given, ends_stand}
use Rattle.tib_determinize.specs.Determinization.{IsSeed, IsVectorSeed, IsVectorEdge, vector_cmp, determinization}
use Rattle.tib_determinize.specs.Keys.{keys_tie, is_same}
use Rattle.tib_determinize.specs.OneStep.{determinization_laws}
use Rattle.tib_determinize.specs.Started.{start_in, with_final, finals}
use Rattle.tib_determinize.specs.Vectors.{VectorOf, IsWeight, IsStepCost, IsStep, vector_at, vectors_at}
use Rattle.tib_determinize.proofs.Finals.{start_has}
use Rattle.tib_operations.specs.Determinize.{determinizing}

pub vector_same : (v w : VectorOf) → vector_cmp v w ≡ Equal → v ≡ w
vector_same v w e = is_same v w (keys_tie v w ∙ ap is_eq e)

-- the residuals of a vector can be printed
abbrev IsPlain : Scale → VectorOf → Type 0
IsPlain scale v = Each (λ x. IsPlainCost scale x.1) v

leaves_end : (vs : List VectorOf) → HolesAreLeaves {A = ℕ} (leaves vs)
leaves_end [] = tt
leaves_end (v ∷ vs) = leaves_end vs

leaves_plain : (labels : List (List ℕ)) (place : VectorOf → ℕ) (vs : List VectorOf) → HavePlainLabels labels (relabel (symbol_map place) (leaves vs))
leaves_plain labels place [] = tt
leaves_plain labels place (v ∷ vs) = (tt, leaves_plain labels place vs)

module _ {levelled weighed : Bool} {product : ℕ → ℕ → ℕ} (laws : ProductLaws levelled weighed product) (scale : Scale) (labels : List (List ℕ)) (rules : List (Rule ℕ)) (p : ArePrintable scale labels rules) where
  zero_product : (a b : ℕ) → a ≡ 0 → b ≡ 0 → product a b ≡ 0
  zero_product a b x y = ap (λ z. product z b) x ∙ ap (product 0) y ∙ laws.neutral 0

  weight_free : (qs : List ℕ) (vs : List VectorOf) (w : ℕ) → Each (λ v. Each (λ x. x.1 ≡ 0) v) vs → IsWeight product qs vs w → w ≡ 0
  weight_free [] [] w e h = h
  weight_free [] (v ∷ vs) w e h = absurd h
  weight_free (q ∷ qs) [] w e h = absurd h
  weight_free (q ∷ qs) (v ∷ vs) w e h =
      sym h.is ∙ zero_product h.residual h.others (each_has (λ (x : ℕ × ℕ). x.1 ≡ 0) v (q, h.residual) e.0 h.stands) (weight_free qs vs h.others e.1 h.are)

  -- a cost within the greatest, over vectors that can be printed, can be printed
  cost_plain : (f : ℕ) (vs : List VectorOf) (q u : ℕ) → Each (IsPlain scale) vs → IsStepCost product rules f vs q u → u ≤ most → IsPlainCost scale u
  cost_plain f vs q u e c low = by scale (p c.rule c.below).cost e
    where
      by : (s : Scale) → IsPlainCost s (rule_at rules c.rule).cost → Each (IsPlain s) vs → IsPlainCost s u
      by scales.Plain own all = low
      by scales.Reversed own all = low
      by scales.Unweighted own all = sym c.costs ∙ zero_product (rule_at rules c.rule).cost c.weight own (weight_free _ vs c.weight all c.is_weight)

  -- so can a residual of such a cost
  residual_plain : (u m r : ℕ) → IsPlainCost scale u → IsResidual product u m r → IsPlainCost scale r
  residual_plain u m r h is = by scale h
    where
      low : r ≤ u
      low = subst (λ z. r ≤ z) (laws.commutes r m ∙ is.gives) (laws.at_least r m)

      by : (s : Scale) → IsPlainCost s u → IsPlainCost s r
      by scales.Plain h = omega (arith, h, low)
      by scales.Reversed h = omega (arith, h, low)
      by scales.Unweighted h = omega (arith, h, low)

  step_plain : (f : ℕ) (vs : List VectorOf) (m : ℕ) (v : VectorOf) → Each (IsPlain scale) vs → IsStep product rules f vs m v → IsPlain scale v
  step_plain f vs m v e s =
      each_of (λ (x : ℕ × ℕ). IsPlainCost scale x.1) v (λ x h.
      let a = s.residuals x.0 x.1 h in
      residual_plain a.0 m x.1 (cost_plain f vs x.0 a.0 e a.1.attained.0 a.1.attained.1) a.2)

  at_plain : (order : List VectorOf) (ps : List ℕ) → Each (IsPlain scale) order → Each (λ p. p < length order) ps → Each (IsPlain scale) (vectors_at order ps)
  at_plain order ps all low =
      each_of (IsPlain scale) (vectors_at order ps) (λ v h.
      let a = has_mapped (vector_at order) ps v h in
      subst (IsPlain scale) a.2 (each_has (IsPlain scale) order (vector_at order a.0) all (has_at order a.0 [] (each_has (λ q. q < length order) ps a.0 low a.1))))

  -- so can a vector at which an edge of an earlier position ends
  new_plain :
      (old : List VectorOf) (first : ℕ) (v : VectorOf) → Each (IsPlain scale) old →
      (i : ℕ) × (first ≤ i) × (i < length old) × ((o : ℕ × List ℕ) × (e : Rule VectorOf) × IsVectorEdge product rules old i o e × Has (e.left ∷ []) v) → IsPlain scale v
  new_plain old first v olds (i, low, high, (o, e, is_edge, ends)) = elim ends [
    | inl k ↦
        subst (IsPlain scale) k
        (step_plain o.0 (vectors_at old o.1) e.cost e.left (at_plain old o.1 olds (each_weaker (λ p. p ≤ i) (λ p. p < length old) o.1 (λ p up. omega (arith, up, high)) is_edge.up_to)) is_edge.step)
    | inr k ↦ absurd k
  ]

  -- each vector of an order can be printed
  rounds_plain : (rounds expanded : ℕ) (order : List VectorOf) → AfterRounds (determinization product rules) rounds expanded order → Each (IsPlain scale) order
  rounds_plain zero expanded order (start, first) = each_of (IsPlain scale) order (λ v h. let s = (first.1 v).0 h in step_plain s.0 [] s.1 v tt s.2)
  rounds_plain (suc rounds) expanded order (old, first, new, before, is, at, made) =
      let olds = rounds_plain rounds first old before in
      subst (λ (l : List VectorOf). Each (IsPlain scale) l) (sym made) (each_append (IsPlain scale) old new olds (each_of (IsPlain scale) new (λ v h. new_plain old first v olds ((is.1 v).0 h).0)))

  order_plain : (order : List VectorOf) → IsReached (determinization product rules) order → Each (IsPlain scale) order
  order_plain order reached = rounds_plain reached.0 reached.1 order reached.2

  -- the vector of a seed is in each order
  seed_stands : (rounds expanded : ℕ) (order : List VectorOf) → AfterRounds (determinization product rules) rounds expanded order → (v : VectorOf) → IsSeed product rules v → Has order v
  seed_stands zero expanded order (start, first) v s = (first.1 v).1 s
  seed_stands (suc rounds) expanded order (old, first, new, before, is, at, made) v s = subst (λ (l : List VectorOf). Has l v) (sym made) (has_left old new v (seed_stands rounds first old before v s))

  -- a step of a label over vectors of the order
  step_over :
      (order : List VectorOf) (o : ℕ × List ℕ) (e : Rule VectorOf) → IsReached (determinization product rules) order → Has order e.left → Each (λ p. p < length order) o.1 →
      IsStep product rules o.0 (vectors_at order o.1) e.cost e.left → e.right ≡ over o.0 (vectors_at order o.1) → IsEdgeOver scale labels order e
  step_over order o e reached left low step right =
      let vs : List VectorOf = vectors_at order o.1 in
      let c = step.least.attained.0 in
      let root = subst (λ (z : Symbol ℕ ℕ). HavePlainLabels labels (tree z (rule_at rules c.1.rule).right.kids none)) c.1.root (p c.1.rule c.1.below).right in
      record {
        left = left;
        right = λ k h.
            let stands : Has vs k = subst (λ (ks : List VectorOf). Has ks k) (ap holes_of right ∙ holes_of-over o.0 vs) h in
            let a = has_mapped (vector_at order) o.1 k stands in
            subst (Has order) a.2 (has_at order a.0 [] (each_has (λ q. q < length order) o.1 a.0 low a.1));
        leaves = subst (λ (s : SideFor ℕ VectorOf). HolesAreLeaves (only s)) (sym right) (leaves_end vs, tt);
        plain = λ place. subst (λ (s : SideFor ℕ VectorOf). HavePlainLabels labels (relabel (symbol_map place) (only s))) (sym right) (root.0, root.1, leaves_plain labels place vs, tt);
        cost = cost_plain o.0 vs c.0 e.cost (at_plain order o.1 (order_plain order reached) low) c.1 step.least.attained.1;
      }

  all_over : (order : List VectorOf) (es : List (Rule VectorOf)) → IsReachedSet (determinization product rules) order es → (e : Rule VectorOf) → Has es e → IsEdgeOver scale labels order e
  all_over order es reached e h = elim (edge_given (determinization product rules) (determinization_laws product rules) order (length order) es reached.1 e h) [
    | inl s ↦ seeded s.0 s.1
    | inr m ↦ placed m.0 m.1 m.2.0 m.2.1
  ]
    where
      seeded : (o : ℕ × List ℕ) → IsVectorSeed product rules o e → IsEdgeOver scale labels order e
      seeded o s =
          step_over order (o.0, []) e reached.0 (seed_stands reached.0.0 reached.0.1 order reached.0.2 e.left (o.0, e.cost, s.step)) tt s.step s.right

      placed : (i : ℕ) → i < length order → (o : ℕ × List ℕ) → IsVectorEdge product rules order i o e → IsEdgeOver scale labels order e
      placed i low o s =
          step_over order o e reached.0
          (ends_stand (determinization product rules) (determinization_laws product rules) vector_same order reached.0 i low o e e.left s (inl refl))
          (each_weaker (λ p. p ≤ i) (λ p. p < length order) o.1 (λ p up. omega (arith, up, low)) s.up_to) s.step s.right

-- finals

with_each : (P : ℕ × ℕ → Type 0) (i : ℕ) (o : Option ℕ) (more : List (ℕ × ℕ)) → ((r : ℕ) → o ≡ Some r → P (i, r)) → Each P more → Each P (with_final i o more)
with_each P i None more h e = e
with_each P i (Some r) more h e = (h r refl, e)

finals_within : (i : ℕ) (order : List VectorOf) → Each (λ (f : ℕ × ℕ). f.0 < i + length order) (finals i order)
finals_within i [] = tt
finals_within i (v ∷ order) =
    with_each (λ f. f.0 < i + length (v ∷ order)) i (start_in v) (finals (suc i) order) (λ r e. omega arith)
    (each_weaker (λ (f : ℕ × ℕ). f.0 < suc i + length order) (λ f. f.0 < i + length (v ∷ order)) (finals (suc i) order) (λ f low. omega (arith, low)) (finals_within (suc i) order))

finals_plain : (scale : Scale) (i : ℕ) (order : List VectorOf) → Each (IsPlain scale) order → Each (λ (f : ℕ × ℕ). IsPlainCost scale f.1) (finals i order)
finals_plain scale i [] e = tt
finals_plain scale i (v ∷ order) e =
    with_each (λ f. IsPlainCost scale f.1) i (start_in v) (finals (suc i) order) (λ r is. each_has (λ (x : ℕ × ℕ). IsPlainCost scale x.1) v (0, r) e.0 (start_has v r is)) (finals_plain scale (suc i) order e.1)

with_few : (i : ℕ) (o : Option ℕ) (more : List (ℕ × ℕ)) → length (with_final i o more) ≤ suc (length more)
with_few i None more = omega arith
with_few i (Some r) more = omega arith

pub finals_few : (i : ℕ) (order : List VectorOf) → length (finals i order) ≤ length order
finals_few i [] = omega arith
finals_few i (v ∷ order) = omega (arith, with_few i (start_in v) (finals (suc i) order), finals_few (suc i) order)

-- finals are positions of the order
pub finals_stand : (order : List VectorOf) → Each (λ (f : ℕ × ℕ). f.0 < length order) (finals 0 order)
finals_stand order = each_weaker (λ (f : ℕ × ℕ). f.0 < 0 + length order) (λ f. f.0 < length order) (finals 0 order) (λ f low. omega (arith, low)) (finals_within 0 order)

-- the construction of the vectors of a grammar that can be printed
pub vectors_plain :
    {levelled weighed : Bool} {product : ℕ → ℕ → ℕ} → ProductLaws levelled weighed product → (scale : Scale) (labels : List (List ℕ)) (form : GrammarOf) → ArePrintable scale labels form.rules →
    IsPlainFresh scale labels (determinizing product form) (finals 0)
vectors_plain {product = product} laws scale labels form p = record {
  edges = record {
    laws = determinization_laws product form.rules;
    equal = vector_same;
    parts = λ k. omega arith;
    edges = all_over laws scale labels form.rules p;
  };
  begins = λ order. refl;
  within = λ order reached. finals_stand order;
  costs = λ order reached. finals_plain scale 0 order (order_plain laws scale labels form.rules p order reached);
}
