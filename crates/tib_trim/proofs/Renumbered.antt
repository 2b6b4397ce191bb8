-- Rules under other numbers of states have the same runs.
use Rattle.std.specs.Prelude.{◌≡◌, ℕ, ◌<◌, List, [], ◌∷◌, length, map, refl}
use Rattle.std.proofs.Common.{arith, ap, sym, ◌∙◌, subst}
use Rattle.std.proofs.lemmas.List.{get_or-map, length-map}
use Rattle.tib_tree.specs.Trees.{Tree, Trees, none, tree, join, only}
use Rattle.tib_cost.proofs.Least.{IsLeast-same}
use Rattle.tib_grammar.specs.GrammarOf.{named_rule}
use Rattle.tib_grammar.specs.Range.{AllBelow, AreInRange}
use Rattle.tib_grammar.specs.Run.{rule_at, no_rule, AreRuns, yields, cost, IsCost}
use Rattle.tib_grammar.specs.Series.{HaveSameSeries}
use Rattle.tib_grammar.specs.Sides.{holes_of, fill}
use Rattle.tib_grammar.specs.declared.Rule.{Rule}
use Rattle.tib_grammar.proofs.Sides.{holes-relabel, fill-relabel}
use Rattle.tib_trim.specs.Complete.{AreAllInCompleteRuns}

module _
    (product : ℕ → ℕ → ℕ) (f : ℕ → ℕ) (count : ℕ) (old new : List (Rule ℕ)) (named : map (named_rule f) new ≡ old) (range : AreInRange count new)
    (apart : (p q : ℕ) → p < count → q < count → f p ≡ f q → p ≡ q) where
  as_many : length new ≡ length old
  as_many = sym (length-map new (named_rule f)) ∙ ap length named

  -- each rule is the one at its position, under the other numbers
  named_at : (n : ℕ) → n < length new → named_rule f (rule_at new n) ≡ rule_at old n
  named_at n h = sym (get_or-map (named_rule f) new n no_rule no_rule h) ∙ ap (λ rs. rule_at rs n) named

  left_is : (n : ℕ) → n < length new → f (rule_at new n).left ≡ (rule_at old n).left
  left_is n h = ap (λ (r : Rule ℕ). r.left) (named_at n h)

  holes_are : (n : ℕ) → n < length new → map f (holes_of (rule_at new n).right) ≡ holes_of (rule_at old n).right
  holes_are n h = sym (holes-relabel f (only (rule_at new n).right)) ∙ ap (λ (r : Rule ℕ). holes_of r.right) (named_at n h)

  fills : (n : ℕ) (us : Trees ℕ) → n < length new → fill (only (rule_at new n).right) us ≡ fill (only (rule_at old n).right) us
  fills n us h = sym (fill-relabel f (only (rule_at new n).right) us) ∙ ap (λ (r : Rule ℕ). fill (only r.right) us) (named_at n h)

  weight : (n : ℕ) → n < length new → (rule_at new n).cost ≡ (rule_at old n).cost
  weight n h = ap (λ (r : Rule ℕ). r.cost) (named_at n h)

  -- new runs are old ones
  pub to_old : (runs : Trees ℕ) (ks : List ℕ) → AreRuns new ks runs → AreRuns old (map f ks) runs
  to_old none [] a = tt
  to_old none (k ∷ ks) a = absurd a
  to_old (tree n runs rest) [] a = absurd a
  to_old (tree n runs rest) (k ∷ ks) a = (
    omega (arith, a.0, as_many),
    sym (left_is n a.0) ∙ ap f a.1,
    subst (λ qs. AreRuns old qs runs) (holes_are n a.0) (to_old runs (holes_of (rule_at new n).right) a.2),
    to_old rest ks a.3,
  )

  -- and old ones are new ones
  pub to_new : (runs : Trees ℕ) (ks : List ℕ) → AllBelow count ks → AreRuns old (map f ks) runs → AreRuns new ks runs
  to_new none [] b a = tt
  to_new none (k ∷ ks) b a = absurd a
  to_new (tree n runs rest) [] b a = absurd a
  to_new (tree n runs rest) (k ∷ ks) b a =
      let below : n < length new = omega (arith, a.0, as_many) in (
        below,
        apart (rule_at new n).left k (range n below).0 b.0 (left_is n below ∙ a.1),
        to_new runs (holes_of (rule_at new n).right) (range n below).1 (subst (λ qs. AreRuns old qs runs) (sym (holes_are n below)) a.2),
        to_new rest ks b.1 a.3,
      )

  -- they yield the same
  pub same_yields : (runs : Trees ℕ) (ks : List ℕ) → AreRuns new ks runs → yields new runs ≡ yields old runs
  same_yields none ks a = refl
  same_yields (tree n runs rest) [] a = absurd a
  same_yields (tree n runs rest) (k ∷ ks) a =
      fills_join n runs rest a.0
      ∙ ap (λ us. join (fill (only (rule_at old n).right) us) (yields new rest)) (same_yields runs (holes_of (rule_at new n).right) a.2)
      ∙ ap (join (fill (only (rule_at old n).right) (yields old runs))) (same_yields rest ks a.3)
    where
      fills_join :
          (n : ℕ) (runs rest : Trees ℕ) → n < length new →
          join (fill (only (rule_at new n).right) (yields new runs)) (yields new rest) ≡ join (fill (only (rule_at old n).right) (yields new runs)) (yields new rest)
      fills_join n runs rest h = ap (λ us. join us (yields new rest)) (fills n (yields new runs) h)

  -- and cost the same
  pub same_cost : (runs : Trees ℕ) (ks : List ℕ) → AreRuns new ks runs → cost product new runs ≡ cost product old runs
  same_cost none ks a = refl
  same_cost (tree n runs rest) [] a = absurd a
  same_cost (tree n runs rest) (k ∷ ks) a =
      ap (λ w. product (product w (cost product new runs)) (cost product new rest)) (weight n a.0)
      ∙ ap (λ c. product (product (rule_at old n).cost c) (cost product new rest)) (same_cost runs (holes_of (rule_at new n).right) a.2)
      ∙ ap (product (product (rule_at old n).cost (cost product old runs))) (same_cost rest ks a.3)

  module _ (start : f 0 ≡ 0) (some : 0 < count) where
    from_start : (runs : Trees ℕ) → AreRuns new (0 ∷ []) runs → AreRuns old (0 ∷ []) runs
    from_start runs a = subst (λ q. AreRuns old (q ∷ []) runs) start (to_old runs (0 ∷ []) a)

    to_start : (runs : Trees ℕ) → AreRuns old (0 ∷ []) runs → AreRuns new (0 ∷ []) runs
    to_start runs a = to_new runs (0 ∷ []) (some, tt) (subst (λ q. AreRuns old (q ∷ []) runs) (sym start) a)

    old_cost : (t : Tree ℕ) (c : ℕ) → IsCost product new (0 ∷ []) (only t) c → IsCost product old (0 ∷ []) (only t) c
    old_cost t c h = record {
      runs = h.runs;
      are_runs = from_start h.runs h.are_runs;
      yielded = sym (same_yields h.runs (0 ∷ []) h.are_runs) ∙ h.yielded;
      costs = sym (same_cost h.runs (0 ∷ []) h.are_runs) ∙ h.costs;
    }

    new_cost : (t : Tree ℕ) (c : ℕ) → IsCost product old (0 ∷ []) (only t) c → IsCost product new (0 ∷ []) (only t) c
    new_cost t c h =
        let a = to_start h.runs h.are_runs in
        record {
          runs = h.runs;
          are_runs = a;
          yielded = same_yields h.runs (0 ∷ []) a ∙ h.yielded;
          costs = same_cost h.runs (0 ∷ []) a ∙ h.costs;
        }

    -- so they have the same series
    pub same_series : HaveSameSeries product old new
    same_series t v = (λ h. IsLeast-same (new_cost t) (old_cost t) h, λ h. IsLeast-same (old_cost t) (new_cost t) h)

    -- and each rule is in a complete run where each old one is
    pub all_in : AreAllInCompleteRuns product old → AreAllInCompleteRuns product new
    all_in all n h =
        let r = all n (omega (arith, h, as_many)) in
        let a = to_start r.run r.complete.from_start in
        record { run = r.run; complete = record { from_start = a; within = omega (arith, same_cost r.run (0 ∷ []) a, r.complete.within) }; stands = r.stands }
