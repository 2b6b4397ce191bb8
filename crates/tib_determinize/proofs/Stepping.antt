-- There is a step, or no state has a cost.
use Rattle.std.specs.Prelude.{◌≡◌, ℕ, ◌+◌, ◌<◌, ◌≤◌, ◌⊎◌, List, [], ◌∷◌, length, Bool, refl, Option, None, Some}
use Rattle.std.proofs.Common.{zero, suc, arith, ap, sym, ◌∙◌, subst, inl, inr}
use Rattle.tib_lex.specs.Lists.{Has, Each}
use Rattle.tib_grammar.specs.Sides.{label, holes}
use Rattle.tib_grammar.specs.Run.{rule_at}
use Rattle.tib_grammar.specs.declared.Rule.{Rule}
use Rattle.tib_grammar.proofs.Members.{each_has}
use Rattle.tib_grammar.proofs.Sides.{is_label_cases}
use Rattle.tib_cost.specs.Semiring.{ProductLaws, HasResidual, IsResidual, most, cut}
use Rattle.tib_cost.specs.Least.{IsLeast, Products, times, lesser}
use Rattle.tib_cost.proofs.Least.{IsLeast-one, IsLeast-none, IsLeast-same, IsLeast-scaled, IsLeast-either, IsLeast-either_none}
use Rattle.tib_determinize.specs.Vectors.{VectorOf, Rises, IsWeight, IsStepCost, IsStep}
use Rattle.tib_determinize.specs.Determinization.{LeftsBelow}
use Rattle.tib_determinize.specs.ListLemmas.{nat_same, order_of, each_map}
use Rattle.tib_determinize.specs.VectorLemmas.{stands, one_residual}

below_cases : (n m : ℕ) → n < suc m → (n < m) ⊎ (n ≡ m)
below_cases n m h = grind arith

three : (i q : ℕ) → i ≤ q → (i ≡ q) ⊎ (suc i ≤ q)
three i q h = grind arith

module _
    {levelled weighted : Bool} {product : ℕ → ℕ → ℕ} (laws : ProductLaws levelled weighted product) (rules : List (Rule ℕ)) (states : ℕ)
    (in_range : LeftsBelow states rules) (f : ℕ) (vs : List VectorOf) where
  weight_least : (qs : List ℕ) (ws : List VectorOf) → Each (λ v. Rises v) ws → (w : Option ℕ) × IsLeast (IsWeight product qs ws) w
  weight_least [] [] a = (cut 0, IsLeast-one 0)
  weight_least [] (v ∷ ws) a = (None, IsLeast-none (λ n h. h))
  weight_least (q ∷ qs) [] a = (None, IsLeast-none (λ n h. h))
  weight_least (q ∷ qs) (v ∷ ws) a = elim (stands q v) [
    | inr absent ↦ (None, IsLeast-none (λ n h. absent h.residual h.stands))
    | inl r ↦
        let others = weight_least qs ws a.1 in (
          times product (Some r.0) others.0,
          IsLeast-same
              {S = Products product (λ n. n ≡ r.0) (IsWeight product qs ws)}
              (λ n p. record { residual = r.0; stands = r.1; others = p.1; are = p.3; is = ap (λ z. product z p.1) (sym p.2) ∙ p.4 })
              (λ n h. (h.residual, h.others, one_residual v q h.residual r.0 a.0 h.stands r.1, h.are, h.is))
              (IsLeast-scaled laws r.0 others.1),
        )
  ]

  module _ (ascend : Each (λ v. Rises v) vs) where
    -- a cost by the rule n
    record StepAt (q n u : ℕ) : Type 0 where
      left : (rule_at rules n).left ≡ q
      root : (rule_at rules n).right.label ≡ label f
      below : Products product (λ w. w ≡ (rule_at rules n).cost) (IsWeight product (holes (rule_at rules n).right.kids) vs) u

    -- and by one of the first m
    record StepBelow (q m u : ℕ) : Type 0 where
      rule : ℕ
      below : rule < m
      at : StepAt q rule u

    more_of : (q m u : ℕ) → StepBelow q m u ⊎ StepAt q m u → StepBelow q (suc m) u
    more_of q m u (inl b) = record { rule = b.rule; below = omega (arith, b.below); at = b.at }
    more_of q m u (inr b) = record { rule = m; below = omega arith; at = b }

    less_of : (q m u : ℕ) → StepBelow q (suc m) u → StepBelow q m u ⊎ StepAt q m u
    less_of q m u b = elim (below_cases b.rule m b.below) [
      | inl h ↦ inl (record { rule = b.rule; below = h; at = b.at })
      | inr e ↦ inr (subst (λ n. StepAt q n u) e b.at)
    ]

    rules_least : (q m : ℕ) → (v : Option ℕ) × IsLeast (StepBelow q m) v
    rules_least q zero = (None, IsLeast-none (λ n b. omega (arith, b.below)))
    rules_least q (suc m) =
        let prior = rules_least q m in
        let without : ((u : ℕ) → StepAt q m u → ⊥) → (v : Option ℕ) × IsLeast (StepBelow q (suc m)) v =
        λ none_at. (prior.0, IsLeast-same {S = λ u. StepBelow q m u ⊎ StepAt q m u} (more_of q m) (less_of q m) (IsLeast-either_none none_at prior.1))
        in
        elim (nat_same (rule_at rules m).left q) [
          | inr e ↦ without (λ u a. e a.left)
          | inl e ↦ elim (is_label_cases (rule_at rules m).right.label f) [
            | inr l ↦ without (λ u a. l.0 a.root)
            | inl l ↦
                let w = weight_least (holes (rule_at rules m).right.kids) vs ascend in
                let here : IsLeast (StepAt q m) (times product (Some (rule_at rules m).cost) w.0) =
                IsLeast-same
                {S = Products product (λ n. n ≡ (rule_at rules m).cost) (IsWeight product (holes (rule_at rules m).right.kids) vs)}
                (λ u p. record { left = e; root = l.0; below = p })
                (λ u a. a.below)
                (IsLeast-scaled laws (rule_at rules m).cost w.1)
                in (
                  lesser prior.0 (times product (Some (rule_at rules m).cost) w.0),
                  IsLeast-same {S = λ u. StepBelow q m u ⊎ StepAt q m u} (more_of q m) (less_of q m) (IsLeast-either prior.1 here),
                )
          ]
        ]

    cost_least : (q : ℕ) → (v : Option ℕ) × IsLeast (IsStepCost product rules f vs q) v
    cost_least q =
        let r = rules_least q (length rules) in (
          r.0,
          IsLeast-same
              {S = StepBelow q (length rules)}
              (λ u b. record {
                rule = b.rule;
                below = b.below;
                left = b.at.left;
                root = b.at.root;
                weight = b.at.below.1;
                is_weight = b.at.below.3;
                costs = ap (λ z. product z b.at.below.1) (sym b.at.below.2) ∙ b.at.below.4;
              })
              (λ u p. record {
                rule = p.rule;
                below = p.below;
                at = record { left = p.left; root = p.root; below = ((rule_at rules p.rule).cost, p.weight, refl, p.is_weight, p.costs) };
              })
              r.1,
        )

    -- a state from i on with its least cost
    abbrev IsCosted : ℕ → ℕ × ℕ → Type 0
    IsCosted i x = (i ≤ x.0) × IsLeast (IsStepCost product rules f vs x.0) (Some x.1)

    -- the states from i on that have a cost, with it
    record Gathered (i k : ℕ) (xs : VectorOf) : Type 0 where
      rises : Rises xs
      from : Each (IsCosted i) xs
      absent : (q : ℕ) → i ≤ q → q < i + k → ((u : ℕ) → Has {A = ℕ × ℕ} xs (q, u) → ⊥) → IsLeast (IsStepCost product rules f vs q) None

    keep : (i k : ℕ) (xs : VectorOf) (v : Option ℕ) → IsLeast (IsStepCost product rules f vs i) v → Gathered (suc i) k xs → (ys : VectorOf) × Gathered i (suc k) ys
    keep i k xs None h g = (
      xs,
      record {
        rises = g.rises;
        from = each_map (IsCosted (suc i)) (IsCosted i) (λ x e. (omega (arith, e.0), e.1)) xs g.from;
        absent = λ q low high no_one. elim (three i q low) [
          | inl e ↦ subst (λ z. IsLeast (IsStepCost product rules f vs z) None) e h
          | inr up ↦ g.absent q up (omega arith) no_one
        ];
      },
    )
    keep i k xs (Some u) h g = (
      (i, u) ∷ xs,
      record {
        rises = (each_map (IsCosted (suc i)) (λ x. i < x.0) (λ x e. omega (arith, e.0)) xs g.from, g.rises);
        from = ((omega arith, h), each_map (IsCosted (suc i)) (IsCosted i) (λ x e. (omega (arith, e.0), e.1)) xs g.from);
        absent = λ q low high no_one. elim (three i q low) [
          | inl e ↦ absurd (no_one u (inl (ap (λ z. (z, u)) e)))
          | inr up ↦ g.absent q up (omega arith) (λ w m. no_one w (inr m))
        ];
      },
    )

    gather : (k i : ℕ) → (xs : VectorOf) × Gathered i k xs
    gather zero i = ([], record { rises = tt; from = tt; absent = λ q low high no_one. absurd (omega arith) })
    gather (suc k) i =
        let more = gather k (suc i) in
        let here = cost_least i in
        keep i k more.0 here.0 here.1 more.1

    -- the least cost among some
    record IsMinimum (m : ℕ) (xs : VectorOf) : Type 0 where
      state : ℕ
      has : Has {A = ℕ × ℕ} xs (state, m)
      least : Each (λ x. m ≤ x.1) xs

    minimum : (x : ℕ × ℕ) (xs : VectorOf) → (m : ℕ) × IsMinimum m (x ∷ xs)
    minimum x [] = (x.1, record { state = x.0; has = inl refl; least = (omega arith, tt) })
    minimum x (y ∷ xs) =
        let more = minimum y xs in
        elim (order_of x.1 more.0) [
          | inl h ↦ (
            x.1,
            record {
              state = x.0;
              has = inl refl;
              least = (omega arith, each_map (λ z. more.0 ≤ z.1) (λ z. x.1 ≤ z.1) (λ z e. omega arith) (y ∷ xs) more.1.least);
            },
          )
          | inr h ↦ (more.0, record { state = more.1.state; has = inr more.1.has; least = (h, more.1.least) })
        ]

    -- the residuals of some costs
    record Residuals (m : ℕ) (xs v : VectorOf) : Type 0 where
      rises : Rises v
      low : (i : ℕ) → Each (λ x. i < x.0) xs → Each (λ x. i < x.0) v
      back : (q r : ℕ) → Has {A = ℕ × ℕ} v (q, r) → (u : ℕ) × Has {A = ℕ × ℕ} xs (q, u) × IsResidual product u m r
      to : (q u : ℕ) → Has {A = ℕ × ℕ} xs (q, u) → (r : ℕ) × Has {A = ℕ × ℕ} v (q, r)

    residuals_of : (m : ℕ) (xs : VectorOf) → Rises xs → Each (λ x. m ≤ x.1) xs → (v : VectorOf) × Residuals m xs v
    residuals_of m [] a l = ([], record { rises = tt; low = λ i e. tt; back = λ q r h. absurd h; to = λ q u h. absurd h })
    residuals_of m (x ∷ xs) a l =
        let more = residuals_of m xs a.1 l.1 in
        let d : HasResidual product x.1 m = laws.has_residual x.1 m l.0 in (
          (x.0, d.residual) ∷ more.0,
          record {
            rises = (more.1.low x.0 a.0, more.1.rises);
            low = λ i e. (e.0, more.1.low i e.1);
            back = λ q r h. elim h [
              | inl e ↦
                  let same : x.0 ≡ q = ap (λ (z : ℕ × ℕ). z.0) e in
                  (x.1, inl (ap (λ z. (z, x.1)) same), subst (IsResidual product x.1 m) (ap (λ (z : ℕ × ℕ). z.1) e) d.is_residual)
              | inr k ↦ let b = more.1.back q r k in (b.0, inr b.1, b.2)
            ];
            to = λ q u h. elim h [
              | inl e ↦ (d.residual, inl (ap (λ z. (z, d.residual)) (ap (λ (z : ℕ × ℕ). z.0) e)))
              | inr k ↦ let b = more.1.to q u k in (b.0, inr b.1)
            ];
          },
        )

    none_above : (q u : ℕ) → IsStepCost product rules f vs q u → q < states
    none_above q u p = let h = in_range p.rule p.below in omega (arith, p.left)

    decide : (xs : VectorOf) → Gathered 0 states xs → ((m : ℕ) × (v : VectorOf) × IsStep product rules f vs m v) ⊎ ((q u : ℕ) → IsStepCost product rules f vs q u → u ≤ most → ⊥)
    decide [] g = inr (λ q u p b. (g.absent q (omega arith) (omega (arith, none_above q u p)) (λ w m. m)).lower u p b)
    decide (x ∷ xs) g =
        let low = minimum x xs in
        let v = residuals_of low.0 (x ∷ xs) g.rises low.1.least in
        let here = each_has (IsCosted 0) (x ∷ xs) (low.1.state, low.0) g.from low.1.has in
        inl (
          low.0,
          v.0,
          record {
            least = record {
              attained = ((low.1.state, here.1.attained.0), here.1.attained.1);
              lower = λ n p b. elim (stands p.0 (x ∷ xs)) [
                | inl u ↦
                    let le : low.0 ≤ u.0 = each_has (λ y. low.0 ≤ y.1) (x ∷ xs) (p.0, u.0) low.1.least u.1 in
                    let le2 : u.0 ≤ n = (each_has (IsCosted 0) (x ∷ xs) (p.0, u.0) g.from u.1).1.lower n p.1 b in
                    omega arith
                | inr no_one ↦ absurd ((g.absent p.0 (omega arith) (omega (arith, none_above p.0 n p.1)) no_one).lower n p.1 b)
              ];
            };
            rises = v.1.rises;
            residuals = λ q r h.
                let b = v.1.back q r h in
                (b.0, (each_has (IsCosted 0) (x ∷ xs) (q, b.0) g.from b.1).1, b.2);
            others = λ q no_one. record {
              attained = tt;
              lower = λ n p b. (g.absent q (omega arith) (omega (arith, none_above q n p)) (λ u m. let t = v.1.to q u m in no_one t.0 t.1)).lower n p b;
            };
          },
        )

    -- there is a step, or no state has a cost
    pub step_or_none : ((m : ℕ) × (v : VectorOf) × IsStep product rules f vs m v) ⊎ ((q u : ℕ) → IsStepCost product rules f vs q u → u ≤ most → ⊥)
    step_or_none = let g = gather states 0 in decide g.0 g.1

-- a number above all left states
pub lefts_below : (rules : List (Rule ℕ)) → (states : ℕ) × LeftsBelow states rules
lefts_below [] = (0, λ n h. absurd (omega arith))
lefts_below (r ∷ rules) =
    let more = lefts_below rules in
    (suc r.left + more.0, λ n h. by more.0 more.1 n h)
  where
    by : (states : ℕ) → LeftsBelow states rules → LeftsBelow (suc r.left + states) (r ∷ rules)
    by states all zero h = omega arith
    by states all (suc n) h = let low = all n (omega arith) in omega arith
