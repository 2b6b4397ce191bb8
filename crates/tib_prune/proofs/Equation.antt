-- The outside costs are the least costs that the rules tell.
use Rattle.std.specs.Prelude.{◌≡◌, ◌⊎◌, ℕ, ◌<◌, ◌≤◌, List, [], ◌∷◌, length, Bool, Option, None, Some, refl}
use Rattle.std.proofs.Common.{zero, suc, arith, ap, sym, ◌∙◌, subst, inl, inr, get_or, le_refl}
use Rattle.tib_tree.specs.Trees.{none}
use Rattle.tib_grammar.specs.Sides.{holes_of}
use Rattle.tib_grammar.specs.Run.{rule_at, cost}
use Rattle.tib_grammar.specs.declared.Rule.{Rule}
use Rattle.tib_cost.specs.Semiring.{ProductLaws, most}
use Rattle.tib_cost.specs.Least.{IsLeast, times}
use Rattle.tib_cost.proofs.Least.{IsLeast-dominated, at_least_right, grows_both}
use Rattle.tib_cost.proofs.Times.{cut-within}
use Rattle.tib_inside.specs.Inside.{IsRunCost, total}
use Rattle.tib_inside.proofs.Knuth.{more_runs, rule_run}
use Rattle.tib_prune.specs.Contexts.{Context, gap, below, later, AreRunsAround, cost_around}
use Rattle.tib_prune.specs.Outside.{IsContextCost, IsOutside}
use Rattle.tib_prune.specs.Pruned.{AreCosts}
use Rattle.tib_prune.specs.Settling.{without, told, IsOffered}
use Rattle.tib_prune.proofs.Contexts.{out_of_second, out_below}
use Rattle.tib_prune.proofs.Crossing.{told_context, total_below}

abbrev alone : List ℕ
alone = 0 ∷ []

only_start : (i q : ℕ) → i < length alone → get_or alone i 0 ≡ q → q ≡ 0
only_start zero q h e = sym e
only_start (suc i) q h e = absurd (omega arith)

module _ {levelled weighted : Bool} {product : ℕ → ℕ → ℕ} (laws : ProductLaws levelled weighted product) (rules : List (Rule ℕ)) where
  -- one of the runs is left out whole
  record IsFirst (q : ℕ) (qs : List ℕ) (m : ℕ) : Type 0 where
    place : ℕ
    within : place < length qs
    state : get_or qs place 0 ≡ q
    others : IsRunCost product rules (without place qs) m

  -- the sub-run that is left out depends on the rule n at a place of its right side
  record IsLast (q : ℕ) (qs : List ℕ) (m : ℕ) : Type 0 where
    outer : Context ℕ
    rule : ℕ
    place : ℕ
    beside : ℕ
    around : AreRunsAround rules (rule_at rules rule).left qs outer
    position : rule < length rules
    within : place < length (holes_of (rule_at rules rule).right)
    state : get_or (holes_of (rule_at rules rule).right) place 0 ≡ q
    others : IsRunCost product rules (without place (holes_of (rule_at rules rule).right)) beside
    costs : m ≡ product (cost_around product rules outer) (product (rule_at rules rule).cost beside)

  last_step : (c : Context ℕ) (q : ℕ) (qs : List ℕ) → AreRunsAround rules q qs c → IsFirst q qs (cost_around product rules c) ⊎ IsLast q qs (cost_around product rules c)
  last_step c q [] a = absurd a
  last_step (gap rest) q (p ∷ qs) a = inl (record { place = 0; within = omega arith; state = a.0; others = record { runs = rest; are_runs = a.1; costs = refl } })
  last_step (below n c rest) q (p ∷ qs) a = elim (last_step c q (holes_of (rule_at rules n).right) a.2) [
    | inl s ↦ inr (record {
      outer = gap rest;
      rule = n;
      place = s.place;
      beside = cost_around product rules c;
      around = (sym a.1, a.3);
      position = a.0;
      within = s.within;
      state = s.state;
      others = s.others;
      costs = laws.commutes (product (rule_at rules n).cost (cost_around product rules c)) (cost product rules rest);
    })
    | inr s ↦ inr (record {
      outer = below n s.outer rest;
      rule = s.rule;
      place = s.place;
      beside = s.beside;
      around = (a.0, a.1, s.around, a.3);
      position = s.position;
      within = s.within;
      state = s.state;
      others = s.others;
      costs = ap (λ z. product (product (rule_at rules n).cost z) (cost product rules rest)) s.costs
          ∙ out_below laws (rule_at rules n).cost (cost_around product rules s.outer) (product (rule_at rules s.rule).cost s.beside) (cost product rules rest);
    })
  ]
  last_step (later n runs c) q (p ∷ qs) a = elim (last_step c q qs a.3) [
    | inl s ↦ inl (record {
      place = suc s.place;
      within = omega (arith, s.within);
      state = s.state;
      others = more_runs
          laws
          rules
          p
          (without s.place qs)
          (product (rule_at rules n).cost (cost product rules runs))
          (cost_around product rules c)
          (subst (λ o. IsRunCost product rules (o ∷ []) (product (rule_at rules n).cost (cost product rules runs))) a.1 (rule_run laws rules n (cost product rules runs) a.0 (record { runs = runs; are_runs = a.2; costs = refl })))
          s.others;
    })
    | inr s ↦ inr (record {
      outer = later n runs s.outer;
      rule = s.rule;
      place = s.place;
      beside = s.beside;
      around = (a.0, a.1, a.2, s.around);
      position = s.position;
      within = s.within;
      state = s.state;
      others = s.others;
      costs = ap (product (product (rule_at rules n).cost (cost product rules runs))) s.costs
          ∙ out_of_second laws (product (rule_at rules n).cost (cost product rules runs)) (cost_around product rules s.outer) (product (rule_at rules s.rule).cost s.beside);
    })
  ]

  module _ (insides outsides : ℕ → Option ℕ) (costs : AreCosts product rules insides outsides) where
    exact : (q d : ℕ) → outsides q ≡ Some d → IsOutside product rules q (Some d)
    exact q d e = subst (IsOutside product rules q) e (costs.are_outsides q)

    least_outside : (q n : ℕ) → IsContextCost product rules q n → n ≤ most → (c : ℕ) × (outsides q ≡ Some c) × (c ≤ n)
    least_outside q n r b = go (outsides q) refl
      where
        go : (v : Option ℕ) → outsides q ≡ v → (c : ℕ) × (outsides q ≡ Some c) × (c ≤ n)
        go (Some c) e = (c, e, (exact q c e).lower n r b)
        go None e = let is : IsOutside product rules q None = subst (IsOutside product rules q) e (costs.are_outsides q) in absurd (is.lower n r b)

    -- what is offered is the cost of a context run
    offered_context : (q n : ℕ) → IsOffered product rules insides outsides q n → IsContextCost product rules q n
    offered_context q n (inl s) =
        subst (λ o. IsContextCost product rules o n) (sym s.0) (subst (IsContextCost product rules 0) (sym s.1) (record { context = gap none; are_runs = (refl, tt); costs = refl }))
    offered_context q n (inr s) =
        let t = s.1 in
        subst (λ o. IsContextCost product rules o n) t.state ((told_context laws rules insides costs.are_insides outsides exact t.rule t.place n t.position t.within t.cost).0)

    -- for each context run something is offered that is not greater
    offered_below : (q n : ℕ) → IsContextCost product rules q n → n ≤ most → (m : ℕ) × IsOffered product rules insides outsides q m × (m ≤ n)
    offered_below q n h b = elim (last_step h.context q (0 ∷ []) h.are_runs) [
      | inl s ↦ (0, inl (only_start s.place q s.within s.state, refl), omega arith)
      | inr s ↦
          let w : ℕ = (rule_at rules s.rule).cost in
          let e : ℕ = cost_around product rules s.outer in
          let y : ℕ = s.beside in
          let whole : n ≡ product e (product w y) = sym h.costs ∙ s.costs in
          let le1 : e ≤ product e (product w y) = laws.at_least e (product w y) in
          let le2 : product w y ≤ product e (product w y) = at_least_right laws e (product w y) in
          let le3 : y ≤ product w y = at_least_right laws w y in
          let o = least_outside (rule_at rules s.rule).left e (record { context = s.outer; are_runs = s.around; costs = refl }) (omega (arith, whole, b)) in
          let z = total_below laws rules insides costs.are_insides s.others.runs (without s.place (holes_of (rule_at rules s.rule).right)) s.others.are_runs (omega (arith, s.others.costs, whole, b)) in
          let low1 : product w z.0 ≤ product w y = laws.grows w z.0 y (omega (arith, z.2, s.others.costs)) in
          let low : product o.0 (product w z.0) ≤ product e (product w y) = grows_both laws o.0 (product w z.0) e (product w y) o.2 low1 in
          let tells : told product insides outsides (rule_at rules s.rule) s.place ≡ Some (product o.0 (product w z.0)) =
          ap (λ v. times product v (times product (Some w) (total product insides (without s.place (holes_of (rule_at rules s.rule).right))))) o.1
          ∙ ap (λ v. times product (Some o.0) (times product (Some w) v)) z.1
          ∙ ap (times product (Some o.0)) (cut-within (product w z.0) (omega (arith, whole, b)))
          ∙ cut-within (product o.0 (product w z.0)) (omega (arith, whole, b))
          in (
            product o.0 (product w z.0),
            inr ((rule_at rules s.rule).left, record { rule = s.rule; place = s.place; position = s.position; left = refl; within = s.within; state = s.state; cost = tells }),
            omega (arith, low, whole),
          )
    ]

    -- the outside cost is the least of what is offered
    pub meets : (q : ℕ) → IsLeast (IsOffered product rules insides outsides q) (outsides q)
    meets q = IsLeast-dominated (offered_below q) (λ n s b. (n, offered_context q n s, le_refl n)) (costs.are_outsides q)
