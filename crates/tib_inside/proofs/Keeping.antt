-- Trimming keeps the series.
use Rattle.std.specs.Prelude.{◌≡◌, ℕ, ◌<◌, ◌≤◌, ◌↔◌, List, [], ◌∷◌, length, map, Bool, refl, Option}
use Rattle.std.proofs.Common.{arith, ap, sym, ◌∙◌, subst, inl, inr, get_or}
use Rattle.std.proofs.lemmas.List.{get_or-map, length-map}
use Rattle.tib_lex.specs.Lists.{Has, Each, Distinct}
use Rattle.tib_tree.specs.Trees.{Tree, Trees, none, tree, join, only}
use Rattle.tib_grammar.specs.Sides.{holes, holes_of, fill}
use Rattle.tib_grammar.specs.Run.{rule_at, no_rule, AreRuns, yields, cost, IsCost}
use Rattle.tib_grammar.specs.Series.{IsSeriesAt, IsSeries}
use Rattle.tib_grammar.specs.Range.{AllBelow}
use Rattle.tib_grammar.specs.GrammarOf.{GrammarOf, named_rule}
use Rattle.tib_grammar.specs.declared.Rule.{Rule}
use Rattle.tib_grammar.proofs.Sides.{holes-relabel, fill-relabel}
use Rattle.tib_grammar.proofs.Members.{has_at, at_has, each_of}
use Rattle.tib_cost.specs.Semiring.{ProductLaws, most}
use Rattle.tib_cost.proofs.Least.{IsLeast-dominated, at_least_right}
use Rattle.tib_lex.proofs.Members.{least_first}
use Rattle.tib_inside.specs.Inside.{IsInside}
use Rattle.tib_inside.specs.Useful.{IsLive, IsUseful, below}
use Rattle.tib_inside.specs.Trimmed.{IsTrimmed}
use Rattle.tib_inside.proofs.Chosen.{distinct_at, ascending_distinct}
use Rattle.tib_inside.proofs.Living.{live_by_runs, useful_left}

module _ (product : ℕ → ℕ → ℕ) (old new : GrammarOf) (trimmed : IsTrimmed product old new) where
  pub as_many : length new.rules ≡ length trimmed.rules
  as_many = sym (length-map new.rules (named_rule (λ i. get_or trimmed.states i 0))) ∙ ap length trimmed.named ∙ length-map trimmed.rules (rule_at old.rules)

  -- the old rule of a new one
  pub named_at : (j : ℕ) → j < length new.rules → named_rule (λ i. get_or trimmed.states i 0) (rule_at new.rules j) ≡ rule_at old.rules (get_or trimmed.rules j 0)
  named_at j h =
      let spare : Rule ℕ = named_rule (λ i. get_or trimmed.states i 0) no_rule in
      sym (get_or-map (named_rule (λ i. get_or trimmed.states i 0)) new.rules j no_rule spare h)
      ∙ ap (λ rs. get_or rs j spare) trimmed.named
      ∙ get_or-map (rule_at old.rules) trimmed.rules j 0 spare (omega (arith, as_many))

module _
    {levelled weighted : Bool} {product : ℕ → ℕ → ℕ} (laws : ProductLaws levelled weighted product) (old new : GrammarOf) (costs : ℕ → Option ℕ)
    (insides : (q : ℕ) → IsInside product old.rules q (costs q)) (trimmed : IsTrimmed product old new) where
  distinct : Distinct trimmed.states
  distinct = ascending_distinct trimmed.states trimmed.states_ascend

  record IsRenamed (j n : ℕ) : Type 0 where
    left : get_or trimmed.states (rule_at new.rules j).left 0 ≡ (rule_at old.rules n).left
    holes_are : map (λ i. get_or trimmed.states i 0) (holes_of (rule_at new.rules j).right) ≡ holes_of (rule_at old.rules n).right
    fills : (us : Trees ℕ) → fill (only (rule_at new.rules j).right) us ≡ fill (only (rule_at old.rules n).right) us
    weight : (rule_at new.rules j).cost ≡ (rule_at old.rules n).cost

  renamed : (j n : ℕ) → named_rule (λ i. get_or trimmed.states i 0) (rule_at new.rules j) ≡ rule_at old.rules n → IsRenamed j n
  renamed j n e = record {
    left = ap (λ r. r.left) e;
    holes_are = sym (holes-relabel (λ i. get_or trimmed.states i 0) (only (rule_at new.rules j).right)) ∙ ap (λ r. holes (only r.right)) e;
    fills = λ us. sym (fill-relabel (λ i. get_or trimmed.states i 0) (only (rule_at new.rules j).right) us) ∙ ap (λ r. fill (only r.right) us) e;
    weight = ap (λ r. r.cost) e;
  }

  to_old : (runs : Trees ℕ) (ks : List ℕ) → AreRuns new.rules ks runs → IsCost product old.rules (map (λ i. get_or trimmed.states i 0) ks) (yields new.rules runs) (cost product new.rules runs)
  to_old none [] a = record { runs = none; are_runs = tt; yielded = refl; costs = refl }
  to_old none (k ∷ ks) a = absurd a
  to_old (tree j runs rest) [] a = absurd a
  to_old (tree j runs rest) (k ∷ ks) a =
      let n : ℕ = get_or trimmed.rules j 0 in
      let r : IsRenamed j n = renamed j n (named_at product old new trimmed j a.0) in
      let live : IsLive product old.rules n = ((trimmed.are_rules n).0 (has_at trimmed.rules j 0 (omega (arith, as_many product old new trimmed, a.0)))).0 in
      let x = to_old runs (holes_of (rule_at new.rules j).right) a.2 in
      let y = to_old rest ks a.3 in
      record {
        runs = tree n x.runs y.runs;
        are_runs = (
          live.below,
          sym r.left ∙ ap (λ i. get_or trimmed.states i 0) a.1,
          subst (λ qs. AreRuns old.rules qs x.runs) r.holes_are x.are_runs,
          y.are_runs,
        );
        yielded = ap (λ us. join (fill (only (rule_at old.rules n).right) us) (yields old.rules y.runs)) x.yielded
            ∙ ap (λ us. join us (yields old.rules y.runs)) (sym (r.fills (yields new.rules runs)))
            ∙ ap (join (fill (only (rule_at new.rules j).right) (yields new.rules runs))) y.yielded;
        costs = ap (λ c. product (product c (cost product old.rules x.runs)) (cost product old.rules y.runs)) (sym r.weight)
            ∙ ap (λ c. product (product (rule_at new.rules j).cost c) (cost product old.rules y.runs)) x.costs
            ∙ ap (product (product (rule_at new.rules j).cost (cost product new.rules runs))) y.costs;
      }

  -- a rule of a state that is kept, with runs below it that cost little enough, is kept
  kept_rule :
      (n : ℕ) (runs : Trees ℕ) → n < length old.rules → Has trimmed.states (rule_at old.rules n).left → AreRuns old.rules (holes_of (rule_at old.rules n).right) runs →
      product (rule_at old.rules n).cost (cost product old.rules runs) ≤ most → Has trimmed.rules n × Each (Has trimmed.states) (holes_of (rule_at old.rules n).right)
  kept_rule n runs h s a m =
      let live : IsLive product old.rules n = live_by_runs laws old.rules costs insides n runs h a m in
      let useful : IsUseful product old.rules (rule_at old.rules n).left = useful_left laws old.rules costs insides n live ((trimmed.are_states (rule_at old.rules n).left).0 s) in (
        (trimmed.are_rules n).1 (live, useful),
        each_of (Has trimmed.states) (holes_of (rule_at old.rules n).right) (λ q k. (trimmed.are_states q).1 (inr (below n q useful live k))),
      )

  to_new :
      (runs : Trees ℕ) (qs ks : List ℕ) → AreRuns old.rules qs runs → Each (Has trimmed.states) qs → AllBelow (length trimmed.states) ks →
      map (λ i. get_or trimmed.states i 0) ks ≡ qs → cost product old.rules runs ≤ most → IsCost product new.rules ks (yields old.rules runs) (cost product old.rules runs)
  to_new none [] [] a s r e m = record { runs = none; are_runs = tt; yielded = refl; costs = refl }
  to_new none [] (k ∷ ks) a s r e m = absurd (cc)
  to_new none (q ∷ qs) ks a s r e m = absurd a
  to_new (tree n runs rest) [] ks a s r e m = absurd a
  to_new (tree n runs rest) (q ∷ qs) [] a s r e m = absurd (cc)
  to_new (tree n runs rest) (q ∷ qs) (k ∷ ks) a s r e m =
      let w : ℕ = (rule_at old.rules n).cost in
      let x : ℕ = cost product old.rules runs in
      let y : ℕ = cost product old.rules rest in
      let le1 : x ≤ product w x = at_least_right laws w x in
      let le2 : product w x ≤ product (product w x) y = laws.at_least (product w x) y in
      let le3 : y ≤ product (product w x) y = at_least_right laws (product w x) y in
      let kept_one = kept_rule n runs a.0 (subst (Has trimmed.states) (sym a.1) s.0) a.2 (omega arith) in
      let j = at_has trimmed.rules n 0 kept_one.0 in
      let j_below : j.0 < length new.rules = omega (arith, as_many product old new trimmed, j.1) in
      let same : IsRenamed j.0 n = renamed j.0 n (named_at product old new trimmed j.0 j_below ∙ ap (rule_at old.rules) j.2) in
      let state_is : get_or trimmed.states k 0 ≡ q = cc in
      let others : map (λ i. get_or trimmed.states i 0) ks ≡ qs = cc in
      let left : (rule_at new.rules j.0).left ≡ k =
      distinct_at trimmed.states (rule_at new.rules j.0).left k 0 distinct (trimmed.in_range j.0 j_below).0 r.0 (same.left ∙ a.1 ∙ sym state_is)
      in
      let b = to_new runs (holes_of (rule_at old.rules n).right) (holes_of (rule_at new.rules j.0).right) a.2 kept_one.1 (trimmed.in_range j.0 j_below).1 same.holes_are (omega arith) in
      let c = to_new rest qs ks a.3 s.1 r.1 others (omega arith) in
      record {
        runs = tree j.0 b.runs c.runs;
        are_runs = (j_below, left, b.are_runs, c.are_runs);
        yielded = ap (λ us. join (fill (only (rule_at new.rules j.0).right) us) (yields new.rules c.runs)) b.yielded
            ∙ ap (λ us. join us (yields new.rules c.runs)) (same.fills (yields old.rules runs))
            ∙ ap (join (fill (only (rule_at old.rules n).right) (yields old.rules runs))) c.yielded;
        costs = ap (λ d. product (product d (cost product new.rules b.runs)) (cost product new.rules c.runs)) same.weight
            ∙ ap (λ d. product (product w d) (cost product new.rules c.runs)) b.costs
            ∙ ap (product (product w x)) c.costs;
      }

  forth :
      (i : ℕ) → i < length trimmed.states → (t : Tree ℕ) (n : ℕ) → IsCost product old.rules (get_or trimmed.states i 0 ∷ []) (only t) n → n ≤ most →
      (m : ℕ) × IsCost product new.rules (i ∷ []) (only t) m × (m ≤ n)
  forth i b t n h m =
      let x = to_new h.runs (get_or trimmed.states i 0 ∷ []) (i ∷ []) h.are_runs (has_at trimmed.states i 0 b, tt) (b, tt) refl (omega (arith, h.costs)) in
      (cost product old.rules h.runs, subst (λ ts. IsCost product new.rules (i ∷ []) ts (cost product old.rules h.runs)) h.yielded x, omega (arith, h.costs))

  back :
      (i : ℕ) (t : Tree ℕ) (n : ℕ) → IsCost product new.rules (i ∷ []) (only t) n → n ≤ most → (m : ℕ) × IsCost product old.rules (get_or trimmed.states i 0 ∷ []) (only t) m × (m ≤ n)
  back i t n h m =
      let x = to_old h.runs (i ∷ []) h.are_runs in (
        cost product new.rules h.runs,
        subst (λ ts. IsCost product old.rules (get_or trimmed.states i 0 ∷ []) ts (cost product new.rules h.runs)) h.yielded x,
        omega (arith, h.costs),
      )

  -- each state that is kept keeps its series
  pub kept_at :
      (i : ℕ) → i < length trimmed.states → (t : Tree ℕ) (v : Option ℕ) → IsSeriesAt product old.rules (get_or trimmed.states i 0) t v ↔ IsSeriesAt product new.rules i t v
  kept_at i b t v = (λ h. IsLeast-dominated (forth i b t) (back i t) h, λ h. IsLeast-dominated (back i t) (forth i b t) h)

  pub kept : (t : Tree ℕ) (v : Option ℕ) → IsSeries product old.rules t v ↔ IsSeries product new.rules t v
  kept t v =
      let first = least_first trimmed.states trimmed.states_ascend ((trimmed.are_states 0).1 (inl refl)) in
      let both = kept_at 0 first.0 t v in (
        λ h. both.0 (subst (λ q. IsSeriesAt product old.rules q t v) (sym first.1) h),
        λ h. subst (λ q. IsSeriesAt product old.rules q t v) first.1 (both.1 h),
      )
