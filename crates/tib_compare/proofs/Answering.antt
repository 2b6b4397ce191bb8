-- What the reached set of both grammars gives is their comparison.
use Rattle.std.specs.Prelude.{◌≡◌, ◌⊎◌, ◌↔◌, ℕ, ◌+◌, ◌*◌, ◌<◌, ◌≤◌, max, List, [], ◌∷◌, length, map, Bool, true, false, Option, None, Some, refl}
use Rattle.std.proofs.Common.{zero, suc, arith, ap, sym, ◌∙◌, subst, inl, inr, get_or, true≢false}
use Rattle.std.specs.declared.cmp.Ordering.TheVariants.{Less}
use Rattle.tib_lex.specs.Lists.{Has}
use Rattle.tib_tree.specs.Trees.{Tree, only, size, most_nodes}
use Rattle.tib_tree.specs.Order.{tree_cmp_by}
use Rattle.tib_grammar.specs.Run.{IsCost, AreFree}
use Rattle.tib_grammar.specs.Forms.{AreNormal}
use Rattle.tib_grammar.specs.Range.{AreInRange}
use Rattle.tib_grammar.specs.declared.Rule.{Rule}
use Rattle.tib_grammar.proofs.Opening.{open_cost}
use Rattle.tib_cost.specs.Semiring.{boolean_laws}
use Rattle.tib_determinize.specs.Vectors.{VectorOf, vector_at}
use Rattle.tib_determinize.specs.VectorGrammar.{IsVectorGrammar, IsDeterminized}
use Rattle.tib_determinize.proofs.Found.{vector_grammar}
use Rattle.tib_ranked_trees.specs.Best.{Costed, Cheaper, IsTreeAt, IsKBest}
use Rattle.tib_compare.specs.Compared.{HasCost, Agree, IsOnlyIn, IsInOne, IsLeastOnly, IsCompared, IsTooLarge, IsSmall}
use Rattle.tib_compare.specs.Beside.{beside}
use Rattle.tib_compare.specs.Wanted.{differs, node_cost, wanted}
use Rattle.tib_compare.specs.Least.{IsLeastWanted, IsOfList}
use Rattle.tib_compare.specs.Answered.{SomeDiffers, NoneDiffers, IsAnswerOf}
use Rattle.tib_compare.specs.declared.compared.Compared.{Compared}
use Rattle.tib_compare.specs.declared.compared.Compared.TheVariants.{Same, First, Second}
use Rattle.tib_compare.proofs.Bounds.{HasRun, run_costs, cost_runs}
use Rattle.tib_compare.proofs.Sides.{beside_normal, beside_free, left_runs, right_runs}
use Rattle.tib_compare.proofs.Reading.{IsToldApart, HasOneRun, told_one, either}
use Rattle.tib_compare.proofs.Reaching.{has_tree}
use Rattle.tib_compare.proofs.Wanting.{wanted_cost, marked_run, run_marked, small_costs}
use Rattle.tib_compare.proofs.Ordering.{no_larger, not_both_before}

-- a mark, and the vector at its place
pub mark_at : (second : ℕ) (order : List VectorOf) (k : ℕ) → k < length order → get_or (map (differs second) order) k false ≡ differs second (vector_at order k)
mark_at second [] k h = absurd (omega arith)
mark_at second (v ∷ order) zero h = refl
mark_at second (v ∷ order) (suc k) h = mark_at second order k (omega arith)

pub marked_below : (second : ℕ) (order : List VectorOf) (k : ℕ) → get_or (map (differs second) order) k false ≡ true → k < length order
marked_below second [] k e = absurd (cc)
marked_below second (v ∷ order) zero e = omega arith
marked_below second (v ∷ order) (suc k) e = omega (arith, marked_below second order k e)

large_or_small : (n : ℕ) → (n ≤ most_nodes) ⊎ (most_nodes < n)
large_or_small n = grind arith

module _
    (first : ℕ) (start : 0 < first) (left right : List (Rule ℕ)) (normal : AreNormal left) (normal_too : AreNormal right) (free : AreFree left) (free_too : AreFree right)
    (range : AreInRange first left) (order : List VectorOf) (new : List (Rule ℕ)) (found : IsDeterminized max (beside first left right) order new) where
  vectors : IsVectorGrammar max (beside first left right) order new
  vectors = vector_grammar max (beside first left right) order boolean_laws new found

  -- the starts have runs where the grammars have costs
  left_run : (t : Tree ℕ) → HasCost left t → HasRun (beside first left right) 0 t
  left_run t h = (left_runs first left right normal normal_too range 0 start t).0 (cost_runs left t h)

  left_cost : (t : Tree ℕ) → HasRun (beside first left right) 0 t → HasCost left t
  left_cost t h = run_costs left normal free t ((left_runs first left right normal normal_too range 0 start t).1 h)

  right_run : (t : Tree ℕ) → HasCost right t → HasRun (beside first left right) first t
  right_run t h =
      let z : first + 0 ≡ first = omega arith in
      subst (λ (q : ℕ). HasRun (beside first left right) q t) z ((right_runs first left right normal normal_too range 0 t).0 (cost_runs right t h))

  right_cost : (t : Tree ℕ) → HasRun (beside first left right) first t → HasCost right t
  right_cost t h =
      let z : first ≡ first + 0 = omega arith in
      run_costs right normal_too free_too t ((right_runs first left right normal normal_too range 0 t).1 (subst (λ (q : ℕ). HasRun (beside first left right) q t) z h))

  -- what is told apart has a cost in exactly one grammar
  pub told_in_one : (t : Tree ℕ) → IsToldApart order new first t → IsInOne left right t
  told_in_one t h = elim (told_one (beside first left right) (beside_normal first left right) (beside_free first left right) order new vectors first t h) [
    | inl a ↦ inl (left_cost t a.0, λ k. a.1 (right_run t k))
    | inr a ↦ inr (right_cost t a.0, λ k. a.1 (left_run t k))
  ]

  -- what has a cost in one grammar is told apart, or has one in both
  told_or_both : (t : Tree ℕ) → HasCost left t ⊎ HasCost right t → IsToldApart order new first t ⊎ (HasCost left t × HasCost right t)
  told_or_both t h =
      let r : HasRun (beside first left right) 0 t ⊎ HasRun (beside first left right) first t = elim h [ inl a ↦ inl (left_run t a) | inr a ↦ inr (right_run t a) ] in
      elim (either (beside first left right) (beside_normal first left right) (beside_free first left right) order new vectors first t r) [
        | inl a ↦ inl a
        | inr a ↦ inr (left_cost t a.0, right_cost t a.1)
      ]

  in_one_told : (t : Tree ℕ) → IsInOne left right t → IsToldApart order new first t
  in_one_told t (inl h) = elim (told_or_both t (inl h.0)) [ inl a ↦ a | inr a ↦ absurd (h.1 a.1) ]
  in_one_told t (inr h) = elim (told_or_both t (inr h.0)) [ inl a ↦ a | inr a ↦ absurd (h.1 a.0) ]

  -- a tree that is not told apart has a cost in both or in neither
  pub agree_unless : (t : Tree ℕ) → (IsToldApart order new first t → ⊥) → Agree left right t
  agree_unless t n = (
    λ h. elim (told_or_both t (inl h)) [ inl a ↦ absurd (n a) | inr a ↦ a.1 ],
    λ h. elim (told_or_both t (inr h)) [ inl a ↦ absurd (n a) | inr a ↦ a.0 ],
  )

  -- no vector tells the grammars apart
  pub same_answer : NoneDiffers first order → (t : Tree ℕ) → Agree left right t
  same_answer none_differs t =
      agree_unless t (λ h.
      let o = open_cost boolean_laws new vectors.normal h.0 [] t.label t.kids _ h.1 h.2 in
      let low : h.0 < length order = subst (λ (q : ℕ). q < length order) o.left (vectors.in_range o.rule o.below).0 in
      true≢false (sym h.3 ∙ none_differs h.0 low))

  abbrev told_rules : List (Rule ℕ)
  told_rules = wanted (map (differs first) order) new

  told_wanted : (t : Tree ℕ) → IsToldApart order new first t → (c : ℕ) × IsCost ◌+◌ (wanted (map (differs first) order) new) (0 ∷ []) (only t) c
  told_wanted t h =
      let o = open_cost boolean_laws new vectors.normal h.0 [] t.label t.kids _ h.1 h.2 in
      let low : h.0 < length order = subst (λ (q : ℕ). q < length order) o.left (vectors.in_range o.rule o.below).0 in
      marked_run (map (differs first) order) new vectors.normal t h.0 h.1 h.2 (mark_at first order h.0 low ∙ h.3)

  wanted_told : (t : Tree ℕ) (c : ℕ) → IsCost ◌+◌ (wanted (map (differs first) order) new) (0 ∷ []) (only t) c → IsToldApart order new first t
  wanted_told t c h =
      let m = run_marked (map (differs first) order) new vectors.normal t c h in
      let low : m.0 < length order = marked_below first order m.0 m.3 in
      (m.0, m.1, m.2, sym (mark_at first order m.0 low) ∙ m.3)

  module _ (labels : List (List ℕ)) where
    -- the tree of the list of the best tree
    best_told : (xs : List Costed) → IsLeastWanted labels told_rules xs → (t : Tree ℕ) → IsOfList xs (Some t) → IsInOne left right t
    best_told [] l t h = absurd h
    best_told (x ∷ xs) l t h =
        subst (IsInOne left right) h.0 (told_in_one x.0 (wanted_told x.0 x.1 l.members.0.attained.0))

    -- each tree before it agrees
    before_agrees : (xs : List Costed) → IsLeastWanted labels told_rules xs → (t : Tree ℕ) → IsOfList xs (Some t) → (u : Tree ℕ) → tree_cmp_by labels u t ≡ Less → Agree left right u
    before_agrees [] l t h u e = absurd h
    before_agrees (x ∷ (y ∷ ys)) l t h u e = absurd (let few = l.few in omega (arith, few))
    before_agrees (x ∷ []) l t h u e =
        agree_unless u (λ told.
        let low : size u ≤ size t = no_larger labels u t e in
        let r = told_wanted u told in
        let member : IsTreeAt ◌+◌ told_rules 0 (u, r.0) = small_costs (map (differs first) order) new vectors.normal u r.0 r.1 (omega (arith, h.1)) in
        let apart : Has {A = Costed} (x ∷ []) (u, r.0) → ⊥ =
        λ k. elim k [
          | inl same ↦
              let is : t ≡ u = sym h.0 ∙ ap (λ (z : Costed). z.0) same in
              not_both_before labels u u (subst (λ (z : Tree ℕ). tree_cmp_by labels u z ≡ Less) is e) (subst (λ (z : Tree ℕ). tree_cmp_by labels u z ≡ Less) is e)
          | inr bad ↦ absurd bad
        ]
        in
        let o = l.others (u, r.0) member apart in
        let cheaper : Cheaper labels x (u, r.0) = o.1.0 in
        let one : x.1 ≡ node_cost * size x.0 = wanted_cost (map (differs first) order) new vectors.normal 0 x.0 x.1 l.members.0.attained.0 in
        let two : r.0 ≡ node_cost * size u = wanted_cost (map (differs first) order) new vectors.normal 0 u r.0 r.1 in
        let sizes_are : size x.0 ≡ size t = ap (λ (z : Tree ℕ). size z) h.0 in
        elim cheaper [
          | inl less ↦ absurd (omega (arith, less, one, two, sizes_are, low))
          | inr same ↦ not_both_before labels t u (subst (λ (z : Tree ℕ). tree_cmp_by labels z u ≡ Less) h.0 same.1) e
        ])

    -- where no tree is listed, each tree that has a cost in exactly one has more than 10,000 nodes
    none_small : (xs : List Costed) → IsLeastWanted labels told_rules xs → xs ≡ [] → (t : Tree ℕ) → IsInOne left right t → most_nodes < size t
    none_small (x ∷ xs) l e t h = absurd (cc)
    none_small [] l e t h = elim (large_or_small (size t)) [
      | inr large ↦ large
      | inl low ↦
          let r = told_wanted t (in_one_told t h) in
          let o = l.others (t, r.0) (small_costs (map (differs first) order) new vectors.normal t r.0 r.1 low) (λ k. k) in
          let bad = o.0 in
          absurd (omega (arith, bad))
    ]

    -- where some vector tells them apart, some tree has a cost in exactly one
    pub some_told : SomeDiffers first order → (t : Tree ℕ) × IsInOne left right t
    some_told s =
        let h =
        has_tree (beside first left right) order new vectors found.reached.0.0 found.reached.0.1 found.reached.0.2 s.0 s.1
        in
        let e : differs first (vector_at order h.position) ≡ true = ap (λ (v : VectorOf). differs first v) h.is ∙ s.2 in
        (h.tree_of, told_in_one h.tree_of (h.position, h.cost_of, h.run, e))

    turned : (u : Tree ℕ) → Agree left right u → Agree right left u
    turned u a = (a.1, a.0)

    -- the answer is the comparison
    pub some_answer : (a : Compared) → IsAnswerOf labels first left order new (Some a) → IsCompared labels left right a
    some_answer Same h = same_answer h
    some_answer (First t) h = record {
      only = elim (best_told h.0.0 h.0.1 t h.0.2) [ inl o ↦ o | inr o ↦ absurd (o.1 h.1) ];
      least = before_agrees h.0.0 h.0.1 t h.0.2;
    }
    some_answer (Second t) h = record {
      only = elim (best_told h.0.0 h.0.1 t h.0.2) [ inl o ↦ absurd (h.1 o.0) | inr o ↦ o ];
      least = λ u e. turned u (before_agrees h.0.0 h.0.1 t h.0.2 u e);
    }

    pub no_answer : IsAnswerOf labels first left order new None → IsTooLarge left right
    no_answer h = (some_told h.0, none_small h.1.0 h.1.1 h.1.2)

listed_small : (xs : List Costed) (t : Tree ℕ) → IsOfList xs (Some t) → size t ≤ most_nodes
listed_small [] t h = absurd h
listed_small (x ∷ xs) t h = h.1

pub small_answer :
    (labels : List (List ℕ)) (first : ℕ) (left : List (Rule ℕ)) (order : List VectorOf) (new : List (Rule ℕ)) (a : Compared) →
    IsAnswerOf labels first left order new (Some a) → IsSmall a
small_answer labels first left order new Same h = tt
small_answer labels first left order new (First t) h = listed_small h.0.0 t h.0.2
small_answer labels first left order new (Second t) h = listed_small h.0.0 t h.0.2
