-- Why the least cost that waits is an outside cost.
use Rattle.std.specs.Prelude.{◌≡◌, ◌⊎◌, ℕ, ◌<◌, ◌≤◌, List, [], ◌∷◌, length, Bool, Option, None, Some, Contains, refl}
use Rattle.std.proofs.Common.{zero, suc, arith, ap, sym, ◌∙◌, subst, inl, inr, get_or, le_trans, le_refl}
use Rattle.tib_tree.specs.Trees.{Trees, none, tree}
use Rattle.tib_grammar.specs.Sides.{holes_of}
use Rattle.tib_grammar.specs.Run.{rule_at, AreRuns, cost}
use Rattle.tib_grammar.specs.declared.Rule.{Rule}
use Rattle.tib_cost.specs.Semiring.{ProductLaws, most}
use Rattle.tib_cost.specs.Least.{times}
use Rattle.tib_cost.proofs.Least.{at_least_right, grows_both}
use Rattle.tib_cost.proofs.Times.{cut-some, cut-within}
use Rattle.tib_inside.specs.Inside.{IsRunCost, IsInside, total}
use Rattle.tib_normal.specs.Entries.{TakesLeast}
use Rattle.tib_inside.specs.Settling.{HasOrWaits}
use Rattle.tib_inside.proofs.Knuth.{more_runs, rule_run, total_runs}
use Rattle.tib_prune.specs.Contexts.{Context, gap, below, later, extend, AreRunsAround, cost_around}
use Rattle.tib_prune.specs.Outside.{IsContextCost, IsOutside}
use Rattle.tib_prune.specs.Settling.{without, told, AreSettling}
use Rattle.tib_prune.proofs.Contexts.{extended, extended_cost}

-- a context with the runs of all places but one
pub record RunsBeside (product : ℕ → ℕ → ℕ) (rules : List (Rule ℕ)) (qs : List ℕ) (i c : ℕ) : Type 0 where
  pub context : Context ℕ
  pub around : AreRunsAround rules (get_or qs i 0) qs context
  pub costs : cost_around product rules context ≡ c

-- runs from all states but one are a context around that one
pub beside : (product : ℕ → ℕ → ℕ) (rules : List (Rule ℕ)) (qs : List ℕ) (i : ℕ) (runs : Trees ℕ) → i < length qs → AreRuns rules (without i qs) runs → RunsBeside product rules qs i (cost product rules runs)
beside product rules [] i runs h a = absurd (omega arith)
beside product rules (q ∷ qs) zero runs h a = record { context = gap runs; around = (refl, a); costs = refl }
beside product rules (q ∷ qs) (suc i) none h a = absurd a
beside product rules (q ∷ qs) (suc i) (tree n inner rest) h a =
    let c = beside product rules qs i rest (omega arith) a.3 in
    record {
      context = later n inner c.context;
      around = (a.0, a.1, a.2, c.around);
      costs = ap (product (product (rule_at rules n).cost (cost product rules inner))) c.costs;
    }

module _
    {levelled weighted : Bool} {product : ℕ → ℕ → ℕ} (laws : ProductLaws levelled weighted product) (rules : List (Rule ℕ)) (insides : ℕ → Option ℕ)
    (are_insides : (q : ℕ) → IsInside product rules q (insides q)) where
  inside_is : (q d : ℕ) → insides q ≡ Some d → IsInside product rules q (Some d)
  inside_is q d e = subst (IsInside product rules q) e (are_insides q)

  -- a run that costs little enough is no cheaper than the inside cost
  least_inside : (q n : ℕ) → IsRunCost product rules (q ∷ []) n → n ≤ most → (c : ℕ) × (insides q ≡ Some c) × (c ≤ n)
  least_inside q n r b = go (insides q) refl
    where
      go : (v : Option ℕ) → insides q ≡ v → (c : ℕ) × (insides q ≡ Some c) × (c ≤ n)
      go (Some c) e = (c, e, (inside_is q c e).lower n r b)
      go None e = let is : IsInside product rules q None = subst (IsInside product rules q) e (are_insides q) in absurd (is.lower n r b)

  -- the product of the inside costs of some states is no greater than what runs from them cost
  pub total_below : (runs : Trees ℕ) (qs : List ℕ) → AreRuns rules qs runs → cost product rules runs ≤ most → (z : ℕ) × (total product insides qs ≡ Some z) × (z ≤ cost product rules runs)
  total_below none [] a m = (0, refl, le_refl 0)
  total_below none (q ∷ qs) a m = absurd a
  total_below (tree n inner rest) [] a m = absurd a
  total_below (tree n inner rest) (q ∷ qs) a m =
      let w : ℕ = (rule_at rules n).cost in
      let x : ℕ = cost product rules inner in
      let y : ℕ = cost product rules rest in
      let le2 : product w x ≤ product (product w x) y = laws.at_least (product w x) y in
      let le3 : y ≤ product (product w x) y = at_least_right laws (product w x) y in
      let run : IsRunCost product rules (q ∷ []) (product w x) = subst (λ p. IsRunCost product rules (p ∷ []) (product w x)) a.1 (rule_run laws rules n x a.0 (record { runs = inner; are_runs = a.2; costs = refl })) in
      let here = least_inside q (product w x) run (omega arith) in
      let others = total_below rest qs a.3 (omega arith) in
      let low : product here.0 others.0 ≤ product (product w x) y = grows_both laws here.0 others.0 (product w x) y here.2 others.2 in (
        product here.0 others.0,
        ap (λ v. times product v (total product insides qs)) here.1 ∙ ap (times product (Some here.0)) others.1 ∙ cut-within (product here.0 others.0) (omega arith),
        low,
      )

  module _ (outsides : ℕ → Option ℕ) (exact : (q d : ℕ) → outsides q ≡ Some d → IsOutside product rules q (Some d)) where
    -- what a rule tells is the cost of a context run
    pub told_context :
        (n i c : ℕ) → n < length rules → i < length (holes_of (rule_at rules n).right) → told product insides outsides (rule_at rules n) i ≡ Some c →
        IsContextCost product rules (get_or (holes_of (rule_at rules n).right) i 0) c × (c ≤ most)
    told_context n i c h k e = go (outsides (rule_at rules n).left) (total product insides (without i (holes_of (rule_at rules n).right))) refl refl e
      where
        go :
            (v w : Option ℕ) → outsides (rule_at rules n).left ≡ v → total product insides (without i (holes_of (rule_at rules n).right)) ≡ w →
            times product v (times product (Some (rule_at rules n).cost) w) ≡ Some c → IsContextCost product rules (get_or (holes_of (rule_at rules n).right) i 0) c × (c ≤ most)
        go None w a b e = absurd (cc)
        go (Some d) None a b e = absurd (cc)
        go (Some d) (Some y) a b e = inner (times product (Some (rule_at rules n).cost) (Some y)) refl e
          where
            inner : (u : Option ℕ) → times product (Some (rule_at rules n).cost) (Some y) ≡ u → times product (Some d) u ≡ Some c → IsContextCost product rules (get_or (holes_of (rule_at rules n).right) i 0) c × (c ≤ most)
            inner None f e = absurd (cc)
            inner (Some z) f e =
                let s = cut-some (product d z) c e in
                let t = cut-some (product (rule_at rules n).cost y) z f in
                let others = total_runs laws rules insides inside_is (without i (holes_of (rule_at rules n).right)) y b in
                let around = beside product rules (holes_of (rule_at rules n).right) i others.runs k others.are_runs in
                let outer = (exact (rule_at rules n).left d a).attained.0 in (
                  record {
                    context = extend outer.context n around.context;
                    are_runs = extended rules outer.context n (get_or (holes_of (rule_at rules n).right) i 0) (0 ∷ []) around.context h outer.are_runs around.around;
                    costs = extended_cost laws rules outer.context n around.context
                        ∙ ap (λ x. product x (product (rule_at rules n).cost (cost_around product rules around.context))) outer.costs
                        ∙ ap (λ x. product d (product (rule_at rules n).cost x)) (around.costs ∙ others.costs)
                        ∙ ap (product d) t.0
                        ∙ s.0;
                  },
                  omega (arith, s.0, s.1),
                )

    module _
        (entries : List (ℕ × ℕ)) (start : HasOrWaits outsides entries 0 0)
        (told_all :
        (n i c : ℕ) → n < length rules → i < length (holes_of (rule_at rules n).right) → told product insides outsides (rule_at rules n) i ≡ Some c →
        HasOrWaits outsides entries (get_or (holes_of (rule_at rules n).right) i 0) c) where
      -- the state has a cost of at most m, or an entry is at most m
      abbrev Reaches : ℕ → ℕ → Type 0
      Reaches q m = ((d : ℕ) × (outsides q ≡ Some d) × (d ≤ m)) ⊎ ((e : ℕ × ℕ) × Contains entries e × (e.0 ≤ m))

      weaker : (q m n : ℕ) → m ≤ n → Reaches q m → Reaches q n
      weaker q m n h (inl s) = inl (s.0, s.1, le_trans s.2 h)
      weaker q m n h (inr s) = inr (s.0, s.1, le_trans s.2 h)

      -- with the factor a, each place is reached at the cost of runs from the other places
      abbrev AreReached : List ℕ → ℕ → Type 0
      AreReached qs a =
          (i y : ℕ) → i < length qs → IsRunCost product rules (without i qs) y → product a y ≤ most → Reaches (get_or qs i 0) (product a y)

      -- where its left state has a cost, a rule reaches the states in its right side
      tells :
          (n d : ℕ) → n < length rules → outsides (rule_at rules n).left ≡ Some d → AreReached (holes_of (rule_at rules n).right) (product d (rule_at rules n).cost)
      tells n d h e i y k r m =
          let w : ℕ = (rule_at rules n).cost in
          let group : product (product d w) y ≡ product d (product w y) = laws.regroups d w y in
          let le1 : y ≤ product (product d w) y = at_least_right laws (product d w) y in
          let z = total_below r.runs (without i (holes_of (rule_at rules n).right)) r.are_runs (omega (arith, r.costs)) in
          let z_low : z.0 ≤ y = omega (arith, z.2, r.costs) in
          let low1 : product w z.0 ≤ product w y = laws.grows w z.0 y z_low in
          let low : product d (product w z.0) ≤ product d (product w y) = laws.grows d (product w z.0) (product w y) low1 in
          let le2 : product w z.0 ≤ product d (product w z.0) = at_least_right laws d (product w z.0) in
          let whole : told product insides outsides (rule_at rules n) i ≡ Some (product d (product w z.0)) =
          ap (λ v. times product v (times product (Some w) (total product insides (without i (holes_of (rule_at rules n).right))))) e
          ∙ ap (λ v. times product (Some d) (times product (Some w) v)) z.1
          ∙ ap (times product (Some d)) (cut-within (product w z.0) (omega arith))
          ∙ cut-within (product d (product w z.0)) (omega arith)
          in
          elim (told_all n i (product d (product w z.0)) h k whole) [
            | inr t ↦ inr ((t.cost, get_or (holes_of (rule_at rules n).right) i 0), t.held, omega (arith, t.small, low, group))
            | inl t ↦
                let c = told_context n i (product d (product w z.0)) h k whole in
                let least : t.0 ≤ product d (product w z.0) = (exact (get_or (holes_of (rule_at rules n).right) i 0) t.0 t.1).lower (product d (product w z.0)) c.0 c.1 in
                inl (t.0, t.1, omega (arith, least, low, group))
          ]

      -- what a context run costs is no less than the cost of its state, or than an entry
      cross :
          (c : Context ℕ) (q : ℕ) (qs : List ℕ) (a : ℕ) → AreRunsAround rules q qs c → AreReached qs a → product a (cost_around product rules c) ≤ most →
          Reaches q (product a (cost_around product rules c))
      cross c q [] a r h m = absurd r
      cross (gap rest) q (p ∷ qs) a r h m =
          subst (λ o. Reaches o (product a (cost product rules rest))) r.0 (h 0 (cost product rules rest) (omega arith) (record { runs = rest; are_runs = r.1; costs = refl }) m)
      cross (later n runs c) q (p ∷ qs) a r h m =
          let w : ℕ = (rule_at rules n).cost in
          let x : ℕ = product w (cost product rules runs) in
          let e : ℕ = cost_around product rules c in
          let group : product (product a x) e ≡ product a (product x e) = laws.regroups a x e in
          let first : IsRunCost product rules (p ∷ []) x = subst (λ o. IsRunCost product rules (o ∷ []) x) r.1 (rule_run laws rules n (cost product rules runs) r.0 (record { runs = runs; are_runs = r.2; costs = refl })) in
          let rest : AreReached qs (product a x) = λ i y k s l.
          let g : product (product a x) y ≡ product a (product x y) = laws.regroups a x y in
          subst (Reaches (get_or qs i 0)) (sym g) (h (suc i) (product x y) (omega arith) (more_runs laws rules p (without i qs) x y first s) (omega arith)) in
          subst (Reaches q) group (cross c q qs (product a x) r.3 rest (omega arith))
      cross (below n c rest) q (p ∷ qs) a r h m =
          let w : ℕ = (rule_at rules n).cost in
          let y : ℕ = cost product rules rest in
          let e : ℕ = cost_around product rules c in
          let le1 : y ≤ product (product w e) y = at_least_right laws (product w e) y in
          let le2 : product a y ≤ product a (product (product w e) y) = laws.grows a y (product (product w e) y) le1 in
          elim (h 0 y (omega arith) (record { runs = rest; are_runs = r.3; costs = refl }) (omega arith)) [
            | inr s ↦ inr (s.0, s.1, omega (arith, s.2))
            | inl s ↦
                let here : outsides (rule_at rules n).left ≡ Some s.0 = ap outsides r.1 ∙ s.1 in
                let turn : product a (product (product w e) y) ≡ product (product a y) (product w e) =
                ap (product a) (laws.commutes (product w e) y) ∙ sym (laws.regroups a y (product w e))
                in
                let low : product s.0 (product w e) ≤ product (product a y) (product w e) =
                grows_both laws s.0 (product w e) (product a y) (product w e) s.2 (le_refl (product w e))
                in
                let group : product (product s.0 w) e ≡ product s.0 (product w e) = laws.regroups s.0 w e in
                weaker q (product (product s.0 w) e) (product a (product (product w e) y)) (omega arith) (cross c q (holes_of (rule_at rules n).right) (product s.0 w) r.2 (tells n s.0 r.0 here) (omega arith))
          ]

      -- the start is reached at no cost
      begun : AreReached (0 ∷ []) 0
      begun zero y k r m = elim start [
        | inr t ↦ inr ((t.cost, 0), t.held, omega (arith, t.small))
        | inl t ↦ inl (t.0, t.1, omega (arith, (exact 0 t.0 t.1).lower 0 (record { context = gap none; are_runs = (refl, tt); costs = refl }) (omega arith)))
      ]
      begun (suc i) y k r m = absurd (omega arith)

      crossed : (q m : ℕ) → IsContextCost product rules q m → m ≤ most → Reaches q m
      crossed q m r b =
          let same : product 0 (cost_around product rules r.context) ≡ m = laws.neutral (cost_around product rules r.context) ∙ r.costs in
          subst (Reaches q) same (cross r.context q (0 ∷ []) 0 r.are_runs begun (omega (arith, same)))

      waits : (q m : ℕ) → outsides q ≡ None → IsContextCost product rules q m → m ≤ most → (e : ℕ × ℕ) × Contains entries e × (e.0 ≤ m)
      waits q m unknown r b = elim (crossed q m r b) [
        | inr s ↦ s
        | inl s ↦ let bad : None ≡ Some s.0 = sym unknown ∙ s.1 in absurd (cc bad)
      ]

module _
    {levelled weighted : Bool} {product : ℕ → ℕ → ℕ} (laws : ProductLaws levelled weighted product) (rules : List (Rule ℕ)) (insides : ℕ → Option ℕ)
    (are_insides : (q : ℕ) → IsInside product rules q (insides q)) (outsides : ℕ → Option ℕ) (entries : List (ℕ × ℕ))
    (s : AreSettling product rules insides outsides entries) where
  -- the least entry is an outside cost
  pub popped : (e : ℕ × ℕ) (rest : List (ℕ × ℕ)) → TakesLeast entries e rest → outsides e.1 ≡ None → IsOutside product rules e.1 (Some e.0)
  popped e rest t unknown = record {
    attained = (s.contexts e t.held, s.within e t.held);
    lower = λ m r b. let x = waits laws rules insides are_insides outsides s.exact entries s.start s.told_all e.1 m unknown r b in omega (arith, x.2, t.least x.0 x.1);
  }

  -- where nothing waits, each state has its cost
  pub ended : entries ≡ [] → (q : ℕ) → IsOutside product rules q (outsides q)
  ended empty q = go (outsides q) refl
    where
      go : (v : Option ℕ) → outsides q ≡ v → IsOutside product rules q v
      go (Some d) k = s.exact q d k
      go None k = record {
        attained = tt;
        lower = λ m r b.
            let x = waits laws rules insides are_insides outsides s.exact entries s.start s.told_all q m k r b in
            let held : Contains [] x.0 = subst (λ es. Contains es x.0) empty x.1 in
            absurd (omega (arith, held.1));
      }
