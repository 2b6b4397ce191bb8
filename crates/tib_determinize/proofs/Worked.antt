-- The example, computed.
use Rattle.std.specs.Prelude.{◌≡◌, ℕ, ◌+◌, ◌<◌, ◌≤◌, ◌⊎◌, List, [], ◌∷◌, length, Some, refl}
use Rattle.std.proofs.Common.{zero, suc, arith, ap, sym, ◌∙◌, subst, inl, inr}
use Rattle.tib_lex.specs.Lists.{Has, Each}
use Rattle.tib_grammar.specs.Sides.{Symbol, label, holes, over}
use Rattle.tib_grammar.specs.Run.{rule_at}
use Rattle.tib_grammar.specs.Range.{AreInRange}
use Rattle.tib_grammar.specs.declared.Rule.{Rule}
use Rattle.tib_cost.specs.Least.{IsLeast}
use Rattle.tib_expand.specs.EdgeLists.{Lists}
use Rattle.tib_expand.specs.Reached.{IsNew}
use Rattle.tib_determinize.specs.Vectors.{VectorOf, IsWeight, IsStepCost, IsSomeCost, IsStep, vectors_at}
use Rattle.tib_determinize.specs.Determinization.{IsVectorSeed, IsVectorEdge, determinization}
use Rattle.tib_determinize.specs.VectorGrammar.{IsDeterminized}
use Rattle.tib_determinize.specs.Examples.{ambiguous, at_leaf, at_root, both, determinized}
use Rattle.tib_determinize.specs.OneStep.{one_step}

label_is : (f g : ℕ) → ◌≡◌ {A = Symbol ℕ ℕ} (label f) (label g) → f ≡ g
label_is f g e = cc

-- the costs at a over no vector
record LeafCost (f q u : ℕ) : Type 0 where
  root : f ≡ 1
  either : ((q ≡ 1) × (u ≡ 2)) ⊎ ((q ≡ 2) × (u ≡ 1))

leaf_cost : (f q u : ℕ) → IsStepCost ◌+◌ ambiguous f [] q u → LeafCost f q u
leaf_cost f q u c = by c.rule c.below c.left c.root c.weight c.is_weight c.costs
  where
    by :
        (n : ℕ) → n < 4 → (rule_at ambiguous n).left ≡ q → (rule_at ambiguous n).right.label ≡ label f → (w : ℕ) → IsWeight ◌+◌ (holes (rule_at ambiguous n).right.kids) [] w →
        (rule_at ambiguous n).cost + w ≡ u → LeafCost f q u
    by zero h l r w i e = absurd i
    by (suc zero) h l r w i e = absurd i
    by (suc (suc zero)) h l r w i e = record { root = sym (label_is 1 f r); either = inl (sym l, omega (arith, i, e)) }
    by (suc (suc (suc zero))) h l r w i e = record { root = sym (label_is 1 f r); either = inr (sym l, omega (arith, i, e)) }
    by (suc (suc (suc (suc n)))) h l r w i e = absurd (omega arith)

second_leaf : IsStepCost ◌+◌ ambiguous 1 [] 1 2
second_leaf = record { rule = 2; below = omega arith; left = refl; root = refl; weight = 0; is_weight = refl; costs = refl }

third_leaf : IsStepCost ◌+◌ ambiguous 1 [] 2 1
third_leaf = record { rule = 3; below = omega arith; left = refl; root = refl; weight = 0; is_weight = refl; costs = refl }

-- a steps to its vector
leaf_step : IsStep ◌+◌ ambiguous 1 [] 1 at_leaf
leaf_step = record {
  least = record {
    attained = ((2, third_leaf), omega arith);
    lower = λ n c b. elim (leaf_cost 1 c.0 n c.1).either [ inl e ↦ omega (arith, e.1) | inr e ↦ omega (arith, e.1) ];
  };
  rises = ((omega arith, tt), (tt, tt));
  residuals = λ q r h. elim h [
    | inl e ↦
        let state : 1 ≡ q = ap (λ (z : ℕ × ℕ). z.0) e in
        let rest : 1 ≡ r = ap (λ (z : ℕ × ℕ). z.1) e in (
          2,
          subst (λ (p : ℕ). IsLeast (IsStepCost ◌+◌ ambiguous 1 [] p) (Some 2)) state (record {
            attained = (second_leaf, omega arith);
            lower = λ n c b. elim (leaf_cost 1 1 n c).either [ inl k ↦ omega (arith, k.1) | inr k ↦ absurd (omega (arith, k.0)) ];
          }),
          record { gives = omega arith; least = λ s g. omega arith },
        )
    | inr m ↦ elim m [
      | inr k ↦ absurd k
      | inl e ↦
          let state : 2 ≡ q = ap (λ (z : ℕ × ℕ). z.0) e in
          let rest : 0 ≡ r = ap (λ (z : ℕ × ℕ). z.1) e in (
            1,
            subst (λ (p : ℕ). IsLeast (IsStepCost ◌+◌ ambiguous 1 [] p) (Some 1)) state (record {
              attained = (third_leaf, omega arith);
              lower = λ n c b. elim (leaf_cost 1 2 n c).either [ inl k ↦ absurd (omega (arith, k.0)) | inr k ↦ omega (arith, k.1) ];
            }),
            record { gives = omega arith; least = λ s g. omega arith },
          )
    ]
  ];
  others = λ q absent. record {
    attained = tt;
    lower = λ n c b. elim (leaf_cost 1 q n c).either [
      | inl k ↦ absurd (absent 1 (inl (ap (λ (z : ℕ). (z, 1)) (sym k.0))))
      | inr k ↦ absurd (absent 0 (inr (inl (ap (λ (z : ℕ). (z, 0)) (sym k.0)))))
    ];
  };
}

-- the costs over one vector or more, where the vector is that of a
residual_of : (q r : ℕ) → Has {A = ℕ × ℕ} at_leaf (q, r) → ((q ≡ 1) × (r ≡ 1)) ⊎ ((q ≡ 2) × (r ≡ 0))
residual_of q r h = elim h [
  | inl e ↦ inl (sym (ap (λ (z : ℕ × ℕ). z.0) e), sym (ap (λ (z : ℕ × ℕ). z.1) e))
  | inr m ↦ elim m [
    | inl e ↦ inr (sym (ap (λ (z : ℕ × ℕ). z.0) e), sym (ap (λ (z : ℕ × ℕ). z.1) e))
    | inr k ↦ absurd k
  ]
]

record RootCost (f q u : ℕ) : Type 0 where
  root : f ≡ 0
  state : q ≡ 0
  least : 2 ≤ u

root_cost : (f q u : ℕ) → IsStepCost ◌+◌ ambiguous f (at_leaf ∷ []) q u → RootCost f q u
root_cost f q u c = by c.rule c.below c.left c.root c.weight c.is_weight c.costs
  where
    by :
        (n : ℕ) → n < 4 → (rule_at ambiguous n).left ≡ q → (rule_at ambiguous n).right.label ≡ label f → (w : ℕ) →
        IsWeight ◌+◌ (holes (rule_at ambiguous n).right.kids) (at_leaf ∷ []) w → (rule_at ambiguous n).cost + w ≡ u → RootCost f q u
    by zero h l r w i e = record {
      root = sym (label_is 0 f r);
      state = sym l;
      least = elim (residual_of 1 i.residual i.stands) [ inl k ↦ omega (arith, k.1, i.is, i.are, e) | inr k ↦ absurd (omega (arith, k.0)) ];
    }
    by (suc zero) h l r w i e = record { root = sym (label_is 0 f r); state = sym l; least = omega (arith, e) }
    by (suc (suc zero)) h l r w i e = absurd i
    by (suc (suc (suc zero))) h l r w i e = absurd i
    by (suc (suc (suc (suc n)))) h l r w i e = absurd (omega arith)

first_root : IsStepCost ◌+◌ ambiguous 0 (at_leaf ∷ []) 0 2
first_root = record {
  rule = 0;
  below = omega arith;
  left = refl;
  root = refl;
  weight = 1;
  is_weight = record { residual = 1; stands = inl refl; others = 0; are = refl; is = refl };
  costs = refl;
}

root_step : IsStep ◌+◌ ambiguous 0 (at_leaf ∷ []) 2 at_root
root_step = record {
  least = record { attained = ((0, first_root), omega arith); lower = λ n c b. (root_cost 0 c.0 n c.1).least };
  rises = (tt, tt);
  residuals = λ q r h. elim h [
    | inr k ↦ absurd k
    | inl e ↦
        let state : 0 ≡ q = ap (λ (z : ℕ × ℕ). z.0) e in
        let rest : 0 ≡ r = ap (λ (z : ℕ × ℕ). z.1) e in (
          2,
          subst (λ (p : ℕ). IsLeast (IsStepCost ◌+◌ ambiguous 0 (at_leaf ∷ []) p) (Some 2)) state (record { attained = (first_root, omega arith); lower = λ n c b. (root_cost 0 0 n c).least }),
          record { gives = omega arith; least = λ s g. omega arith },
        )
  ];
  others = λ q absent. record {
    attained = tt;
    lower = λ n c b. absurd (absent 0 (inl (ap (λ (z : ℕ). (z, 0)) (sym (root_cost 0 q n c).state))));
  };
}

-- where the second position is, no state has a cost
none_at_second :
    (order : List VectorOf) → (vectors_at order (1 ∷ []) ≡ at_root ∷ []) → (f q u : ℕ) (ps : List ℕ) → Each (λ p. p ≤ 1) ps → Has ps 1 →
    IsStepCost ◌+◌ ambiguous f (vectors_at order ps) q u → ⊥
none_at_second order second f q u ps up has c = by c.rule c.below c.weight c.is_weight
  where
    in_root : (q r : ℕ) → Has {A = ℕ × ℕ} at_root (q, r) → q ≡ 0
    in_root q r h = elim h [ inl e ↦ sym (ap (λ (z : ℕ × ℕ). z.0) e) | inr k ↦ absurd k ]

    one_state : (s : ℕ) → (0 < s) → (xs : List ℕ) → Has xs 1 → (w : ℕ) → IsWeight ◌+◌ (s ∷ []) (vectors_at order xs) w → ⊥
    one_state s pos [] h w i = h
    one_state s pos (p ∷ (r ∷ rest)) h w i = i.are
    one_state s pos (p ∷ []) h w i =
        let at : p ≡ 1 = (elim h [ inl k ↦ k | inr k ↦ absurd k ]) in
        let vs : vectors_at order (p ∷ []) ≡ at_root ∷ [] = ap (λ (z : ℕ). vectors_at order (z ∷ [])) at ∙ second in
        let j : IsWeight ◌+◌ (s ∷ []) (at_root ∷ []) w = subst (λ (l : List VectorOf). IsWeight ◌+◌ (s ∷ []) l w) vs i in
        let zero_is : s ≡ 0 = in_root s j.residual j.stands in
        omega arith

    no_state : (xs : List ℕ) → Has xs 1 → (w : ℕ) → IsWeight ◌+◌ [] (vectors_at order xs) w → ⊥
    no_state [] h w i = h
    no_state (p ∷ rest) h w i = i

    by : (n : ℕ) → n < 4 → (w : ℕ) → IsWeight ◌+◌ (holes (rule_at ambiguous n).right.kids) (vectors_at order ps) w → ⊥
    by zero h w i = one_state 1 (omega arith) ps has w i
    by (suc zero) h w i = one_state 2 (omega arith) ps has w i
    by (suc (suc zero)) h w i = no_state ps has w i
    by (suc (suc (suc zero))) h w i = no_state ps has w i
    by (suc (suc (suc (suc n)))) h w i = omega arith

-- over the first position alone it is the list of that one
one_zero : (order : List VectorOf) (f q u : ℕ) (ps : List ℕ) → Each (λ p. p ≤ 0) ps → Has ps 0 → IsStepCost ◌+◌ ambiguous f (vectors_at order ps) q u → ps ≡ 0 ∷ []
one_zero order f q u ps up has c = by c.rule c.below c.weight c.is_weight
  where
    one : (s : ℕ) (xs : List ℕ) → Each (λ p. p ≤ 0) xs → Has xs 0 → (w : ℕ) → IsWeight ◌+◌ (s ∷ []) (vectors_at order xs) w → xs ≡ 0 ∷ []
    one s [] e h w i = absurd h
    one s (p ∷ (r ∷ rest)) e h w i = absurd i.are
    one s (p ∷ []) e h w i = let at : p ≡ 0 = (let low = e.0 in omega arith) in ap (λ (z : ℕ). z ∷ []) at

    no_state : (xs : List ℕ) → Has xs 0 → (w : ℕ) → IsWeight ◌+◌ [] (vectors_at order xs) w → ⊥
    no_state [] h w i = h
    no_state (p ∷ rest) h w i = i

    by : (n : ℕ) → n < 4 → (w : ℕ) → IsWeight ◌+◌ (holes (rule_at ambiguous n).right.kids) (vectors_at order ps) w → ps ≡ 0 ∷ []
    by zero h w i = one 1 ps up has w i
    by (suc zero) h w i = one 2 ps up has w i
    by (suc (suc zero)) h w i = absurd (no_state ps has w i)
    by (suc (suc (suc zero))) h w i = absurd (no_state ps has w i)
    by (suc (suc (suc (suc n)))) h w i = absurd (omega arith)

abbrev Edge : Type 0
Edge = Rule VectorOf

-- an edge of the first position of an order that begins with the vector of a
record IsFirstEdge (o : ℕ × List ℕ) (e : Edge) : Type 0 where
  origin : o ≡ (0, 0 ∷ [])
  left : e.left ≡ at_root

first_edge : (order : List VectorOf) → vectors_at order (0 ∷ []) ≡ at_leaf ∷ [] → (o : ℕ × List ℕ) (e : Edge) → IsVectorEdge ◌+◌ ambiguous order 0 o e → IsFirstEdge o e
first_edge order first o e edge =
    let some : IsSomeCost ◌+◌ ambiguous o.0 (vectors_at order o.1) e.cost = edge.step.least.attained.0 in
    let list : o.1 ≡ 0 ∷ [] = one_zero order o.0 some.0 e.cost o.1 edge.up_to edge.stands some.1 in
    let vs : vectors_at order o.1 ≡ at_leaf ∷ [] = ap (λ (l : List ℕ). vectors_at order l) list ∙ first in
    let step : IsStep ◌+◌ ambiguous o.0 (at_leaf ∷ []) e.cost e.left = subst (λ (l : List VectorOf). IsStep ◌+◌ ambiguous o.0 l e.cost e.left) vs edge.step in
    let root : o.0 ≡ 0 = (root_cost o.0 step.least.attained.0.0 e.cost step.least.attained.0.1).root in
    let here : IsStep ◌+◌ ambiguous 0 (at_leaf ∷ []) e.cost e.left = subst (λ (f : ℕ). IsStep ◌+◌ ambiguous f (at_leaf ∷ []) e.cost e.left) root step in
    record {
      origin = ap (λ (f : ℕ). (f, o.1)) root ∙ ap (λ (l : List ℕ). (0, l)) list;
      left = (one_step ◌+◌ ambiguous 0 (at_leaf ∷ []) e.cost 2 e.left at_root here root_step).1;
    }

root_edge : (order : List VectorOf) → vectors_at order (0 ∷ []) ≡ at_leaf ∷ [] → IsVectorEdge ◌+◌ ambiguous order 0 (0, 0 ∷ []) (record { left = at_root; right = over 0 (at_leaf ∷ []); cost = 2 })
root_edge order first = record {
  up_to = (omega arith, tt);
  stands = inl refl;
  step = subst (λ (l : List VectorOf). IsStep ◌+◌ ambiguous 0 l 2 at_root) (sym first) root_step;
  right = ap (λ (l : List VectorOf). over 0 l) (sym first);
}

seed_is : (f m : ℕ) (v : VectorOf) → IsStep ◌+◌ ambiguous f [] m v → (f ≡ 1) × (v ≡ at_leaf)
seed_is f m v step =
    let some : IsSomeCost ◌+◌ ambiguous f [] m = step.least.attained.0 in
    let root : f ≡ 1 = (leaf_cost f some.0 m some.1).root in
    (root, (one_step ◌+◌ ambiguous 1 [] m 1 v at_leaf (subst (λ (g : ℕ). IsStep ◌+◌ ambiguous g [] m v) root step) leaf_step).1)

no_second : (o : ℕ × List ℕ) (e : Edge) → IsVectorEdge ◌+◌ ambiguous both 1 o e → ⊥
no_second o e edge =
    let some : IsSomeCost ◌+◌ ambiguous o.0 (vectors_at both o.1) e.cost = edge.step.least.attained.0 in
    none_at_second both refl o.0 some.0 e.cost o.1 edge.up_to edge.stands some.1

leaf_is_not_root : at_leaf ≡ at_root → ⊥
leaf_is_not_root e = by (ap length e)
  where
    by : ◌≡◌ {A = ℕ} 2 1 → ⊥
    by d = omega (arith, d)

new_in_first : (v : VectorOf) → IsNew (determinization ◌+◌ ambiguous) (at_leaf ∷ []) 0 v → Has (at_root ∷ []) v
new_in_first v ((zero, low, high, (o, e, edge, ends)), fresh) =
    let f = first_edge (at_leaf ∷ []) refl o e edge in
    elim ends [ inl k ↦ inl (sym f.left ∙ k) | inr k ↦ absurd k ]
new_in_first v ((suc i, low, high, is), fresh) = absurd (omega arith)

first_in_new : (v : VectorOf) → Has (at_root ∷ []) v → IsNew (determinization ◌+◌ ambiguous) (at_leaf ∷ []) 0 v
first_in_new v h = elim h [
  | inl k ↦ subst (λ (w : VectorOf). IsNew (determinization ◌+◌ ambiguous) (at_leaf ∷ []) 0 w) k (
    (0, omega arith, omega arith, ((0, 0 ∷ []), record { left = at_root; right = over 0 (at_leaf ∷ []); cost = 2 }, root_edge (at_leaf ∷ []) refl, inl refl)),
    λ m. elim m [ inl e ↦ leaf_is_not_root e | inr a ↦ a ],
  )
  | inr k ↦ absurd k
]

none_new : (v : VectorOf) → IsNew (determinization ◌+◌ ambiguous) both 1 v → ⊥
none_new v ((zero, low, high, is), fresh) = omega arith
none_new v ((suc zero, low, high, (o, e, edge, ends)), fresh) = no_second o e edge
none_new v ((suc (suc i), low, high, is), fresh) = omega arith

in_range : AreInRange 2 determinized
in_range zero h = (omega arith, tt)
in_range (suc zero) h = (omega arith, (omega arith, tt))
in_range (suc (suc n)) h = absurd (omega arith)

leaf_rule : Edge
leaf_rule = record { left = at_leaf; right = over 1 []; cost = 1 }

root_rule : Edge
root_rule = record { left = at_root; right = over 0 (at_leaf ∷ []); cost = 2 }

seeds : Lists (IsVectorSeed ◌+◌ ambiguous) (record { left = at_leaf; right = over 1 []; cost = 1 } ∷ [])
seeds = record {
  origins = (1, []) ∷ [];
  once = (λ h. h, tt);
  given = (record { none = refl; step = leaf_step; right = refl }, tt);
  whole = λ o e s.
      let root = (seed_is o.0 e.cost e.left s.step).0 in
      inl (ap (λ (f : ℕ). (f, [])) (sym root) ∙ ap (λ (l : List ℕ). (o.0, l)) (sym s.none));
}

firsts : Lists (IsVectorEdge ◌+◌ ambiguous both 0) (record { left = at_root; right = over 0 (at_leaf ∷ []); cost = 2 } ∷ [])
firsts = record {
  origins = (0, 0 ∷ []) ∷ [];
  once = (λ h. h, tt);
  given = (root_edge both refl, tt);
  whole = λ o e edge. inl (sym (first_edge both refl o e edge).origin);
}

seconds : Lists (IsVectorEdge ◌+◌ ambiguous both 1) []
seconds = record { origins = []; once = tt; given = tt; whole = λ o e edge. no_second o e edge }

-- the two vectors and two rules are the reached set of the example
pub is_determinized : IsDeterminized ◌+◌ ambiguous both determinized
is_determinized = record {
  reached = (
    (
      1,
      1,
      (
        at_leaf ∷ [],
        0,
        at_root ∷ [],
        (refl, ((tt, tt), λ v. (λ h. elim h [ inl k ↦ (1, 1, subst (λ (w : VectorOf). IsStep ◌+◌ ambiguous 1 [] 1 w) k leaf_step) | inr k ↦ absurd k ], λ s. inl (sym (seed_is s.0 s.1 v s.2).1)))),
        ((tt, tt), λ v. (first_in_new v, new_in_first v)),
        refl,
        refl,
      ),
      none_new,
    ),
    (
      record { left = at_leaf; right = over 1 []; cost = 1 } ∷ (record { left = at_root; right = over 0 (at_leaf ∷ []); cost = 2 } ∷ []),
      [],
      refl,
      (record { left = at_leaf; right = over 1 []; cost = 1 } ∷ [], record { left = at_root; right = over 0 (at_leaf ∷ []); cost = 2 } ∷ [], refl, seeds, firsts),
      seconds,
    ),
  );
  in_range = in_range;
}
