-- The rules that are in complete runs, as they are filtered, and what they make of runs.
use Rattle.std.specs.Prelude.{◌≡◌, ℕ, ◌-◌, ◌<◌, ◌≤◌, List, [], ◌∷◌, ◌++◌, length, filter, map, take, Bool, true, false, cond, if◌then◌else◌, Option, None, Some, refl}
use Rattle.std.specs.Option.{is_some}
use Rattle.std.proofs.Common.{zero, suc, arith, ap, sym, ◌∙◌, subst, inl, inr, get_or, add-one}
use Rattle.std.proofs.lemmas.List.{take_more, take_all, map-append, get_or-map, length-map}
use Rattle.std.proofs.lemmas.List.Elements.{filter-append}
use Rattle.tib_lex.specs.Lists.{Has}
use Rattle.tib_lex.proofs.Lists.{append_nil, some_same}
use Rattle.tib_lex.proofs.Members.{has_at}
use Rattle.tib_tree.specs.Trees.{Tree, Trees, none, tree, only}
use Rattle.tib_grammar.specs.Run.{rule_at, no_rule, AreRuns, yields, cost, IsCost}
use Rattle.tib_grammar.specs.Range.{AreInRange, IsLeftIn}
use Rattle.tib_grammar.specs.Series.{HaveSameSeries}
use Rattle.tib_grammar.specs.Sides.{holes_of}
use Rattle.tib_grammar.specs.declared.Rule.{Rule}
use Rattle.tib_cost.specs.Semiring.{ProductLaws, most}
use Rattle.tib_cost.proofs.Least.{IsLeast-unique, IsLeast-dominated}
use Rattle.tib_inside.specs.Inside.{IsInside}
use Rattle.tib_inside.specs.Reaching.{chosen}
use Rattle.tib_inside.specs.Settling.{costs_in}
use Rattle.tib_inside.proofs.Chosen.{chosen_has, chosen_of, chosen_ascends}
use Rattle.tib_inside.proofs.Living.{has_inside}
use Rattle.tib_inside.proofs.Moving.{has_some}
use Rattle.tib_prune.specs.Contexts.{Stands}
use Rattle.tib_prune.specs.Loop.{AreInsidesOfAll, AreOutsides}
use Rattle.tib_prune.specs.Outside.{through}
use Rattle.tib_prune.specs.Pruned.{AreCosts, IsKept, IsWithinBeam, ArePruned}
use Rattle.tib_prune.proofs.Contexts.{cut_at}
use Rattle.tib_prune.proofs.Kept.{costs_of, filter_few, still_in_range}
use Rattle.tib_prune.proofs.Pruned.{all_kept, through_run, to_old, to_new, old_yields, old_cost, stands_cheap}
use Rattle.tib_trim.specs.Complete.{IsComplete, IsInCompleteRun, IsThroughCost, AreAllInCompleteRuns}
use Rattle.tib_trim.specs.Keeping.{AreFiltered, AreKept, AreClosed}
use Rattle.tib_trim.specs.TrimmedFile.{AreInCompleteRuns, AreThroughCosts}
use Rattle.tib_trim.proofs.Complete.{is_least, has_run, has_cost}

-- a filtered list by positions
by_positions :
    (test : Rule ℕ → Bool) (rules : List (Rule ℕ)) (n : ℕ) → n ≤ length rules → filter test (take n rules) ≡ map (rule_at rules) (chosen (λ i. test (rule_at rules i)) n)
by_positions test rules zero h = refl
by_positions test rules (suc n) h =
    let before = by_positions test rules n (omega (arith, h)) in
    let taken : take (suc n) rules ≡ take n rules ++ rule_at rules n ∷ [] = ap (λ m. take m rules) (sym (add-one n)) ∙ take_more rules n no_rule (omega (arith, h)) in
    ap (filter test) taken ∙ filter-append test (take n rules) (rule_at rules n ∷ []) ∙ ap (λ xs. xs ++ filter test (rule_at rules n ∷ [])) before ∙ by (test (rule_at rules n))
  where
    positions : List ℕ
    positions = chosen (λ i. test (rule_at rules i)) n

    by : (b : Bool) → map (rule_at rules) positions ++ cond b (rule_at rules n ∷ []) [] ≡ map (rule_at rules) (if b then positions ++ n ∷ [] else positions)
    by true = sym (map-append (rule_at rules) positions (n ∷ []))
    by false = append_nil (map (rule_at rules) positions)

-- a rule that is in runs is one of the rules
pub stands_below : (rules : List (Rule ℕ)) (qs : List ℕ) (runs : Trees ℕ) (n : ℕ) → AreRuns rules qs runs → Stands n runs → n < length rules
stands_below rules qs runs n a s = (cut_at rules runs qs n a s).position

-- a state with a run has a rule
has_rule : (rules : List (Rule ℕ)) (qs : List ℕ) (runs : Trees ℕ) (q : ℕ) → AreRuns rules qs runs → Has qs q → IsLeftIn rules q
has_rule rules [] runs q a h = absurd h
has_rule rules (p ∷ qs) none q a h = absurd a
has_rule rules (p ∷ qs) (tree n inner rest) q a h = elim h [ inl e ↦ (n, a.0, a.1 ∙ e) | inr k ↦ has_rule rules qs rest q a.3 k ]

-- where each rule is in a complete run, each state in a right side has a rule
pub closed : (product : ℕ → ℕ → ℕ) (rules : List (Rule ℕ)) → AreAllInCompleteRuns product rules → AreClosed rules
closed product rules all n q h s =
    let r = all n h in
    let c = cut_at rules r.run (0 ∷ []) n r.complete.from_start r.stands in
    has_rule rules (holes_of (rule_at rules n).right) c.inner q c.are_inner s

-- how far the greatest cost is above the best one
abbrev room : Option ℕ → ℕ
room None = 0
room (Some b) = most - b

room_is : (v : Option ℕ) (b : ℕ) → v ≡ Some b → room v ≡ most - b
room_is None b e = absurd (cc)
room_is (Some c) b e = let same : c ≡ b = some_same c b e in ap (λ x. most - x) same

module _
    {levelled weighted : Bool} {product : ℕ → ℕ → ℕ} (laws : ProductLaws levelled weighted product) (rules : List (Rule ℕ)) (insides outsides : ℕ → Option ℕ)
    (costs : AreCosts product rules insides outsides) where
  abbrev beam : ℕ
  beam = room (insides 0)

  beam_is : (b : ℕ) → IsInside product rules 0 (Some b) → beam ≡ most - b
  beam_is b i = room_is (insides 0) b (IsLeast-unique (costs.are_insides 0) i)

  -- a rule that is in a complete run is kept within the beam that ends at the greatest cost
  in_kept : (n : ℕ) → IsInCompleteRun product rules n → IsKept product rules beam n
  in_kept n r =
      let b = has_inside laws rules insides costs.are_insides 0 (cost product rules r.run) (record { runs = r.run; are_runs = r.complete.from_start; costs = refl }) r.complete.within in
      let within : IsWithinBeam product rules beam (cost product rules r.run) = record { best = b.0; is_best = b.1; close = omega (arith, beam_is b.0 b.1, r.complete.within) } in
      all_kept laws rules beam insides outsides costs r.run n r.complete.from_start r.complete.within within r.stands

  -- and one that is kept is in one
  kept_in : (n : ℕ) → IsKept product rules beam n → IsInCompleteRun product rules n
  kept_in n k =
      let r = through_run laws rules beam insides outsides costs n k.cost k.through in
      record { run = r.runs; complete = record { from_start = r.are_runs; within = omega (arith, r.costs_are, k.through.within) }; stands = r.stands }

  module _ (positions : List ℕ) (new : List (Rule ℕ)) (are : AreInCompleteRuns product rules positions) (e : new ≡ map (rule_at rules) positions) where
    pruned : ArePruned product rules beam new
    pruned = record { positions = positions; ascend = are.ascend; are_kept = λ n. (λ h. in_kept n ((are.are n).0 h), λ k. (are.are n).1 (kept_in n k)); are_rules = e }

    -- a complete run has a run of the rules that are left, and the other way round
    forth : (t : Tree ℕ) (n : ℕ) → IsCost product rules (0 ∷ []) (only t) n → n ≤ most → (m : ℕ) × IsCost product new (0 ∷ []) (only t) m × (m ≤ n)
    forth t n h b =
        let complete : IsComplete product rules h.runs = record { from_start = h.are_runs; within = omega (arith, h.costs, b) } in
        let k = to_new laws rules beam new pruned h.runs (0 ∷ []) h.are_runs (λ m s. in_kept m (record { run = h.runs; complete = complete; stands = s })) in (
          n,
          record {
            runs = k.others;
            are_runs = k.are_runs;
            yielded = sym (old_yields laws rules beam new pruned k.others (0 ∷ []) k.are_runs) ∙ ap (yields rules) k.same ∙ h.yielded;
            costs = sym (old_cost laws rules beam new pruned k.others (0 ∷ []) k.are_runs) ∙ ap (cost product rules) k.same ∙ h.costs;
          },
          omega arith,
        )

    back : (t : Tree ℕ) (n : ℕ) → IsCost product new (0 ∷ []) (only t) n → n ≤ most → (m : ℕ) × IsCost product rules (0 ∷ []) (only t) m × (m ≤ n)
    back t n h b = (n, to_old laws rules beam new pruned (0 ∷ []) (only t) n h, omega arith)

    -- so the series stays the same
    pub same_series : HaveSameSeries product rules new
    same_series t v = (λ h. IsLeast-dominated (forth t) (back t) h, λ h. IsLeast-dominated (back t) (forth t) h)

    -- each rule that is left is in a complete run of those that are left
    pub all_in : AreAllInCompleteRuns product new
    all_in n h =
        let s = stands_cheap laws rules beam new pruned insides outsides costs n h in
        let fits : s.within_beam.best ≤ most = s.within_beam.is_best.attained.1 in
        record {
          run = s.runs;
          complete = record { from_start = s.are_runs; within = omega (arith, s.within_beam.close, beam_is s.within_beam.best s.within_beam.is_best, fits) };
          stands = s.stands;
        }

    -- and they are in range
    pub in_range : (count : ℕ) → AreInRange count rules → AreInRange count new
    in_range count range = still_in_range laws rules beam new pruned count range

module _
    {levelled weighted : Bool} {product : ℕ → ℕ → ℕ} (laws : ProductLaws levelled weighted product) (rules : List (Rule ℕ)) (insides outsides : List (Option ℕ))
    (are_insides : AreInsidesOfAll product rules insides) (are_outsides : AreOutsides product rules outsides) (new : List (Rule ℕ)) (costs : List ℕ)
    (filtered : AreFiltered product insides outsides rules new costs) where
  all_costs : AreCosts product rules (costs_in insides) (costs_in outsides)
  all_costs = costs_of product rules insides outsides are_insides are_outsides

  abbrev cost_of : Rule ℕ → Option ℕ
  cost_of r = through product (costs_in insides) (costs_in outsides) r

  abbrev positions : List ℕ
  positions = chosen (λ i. is_some (cost_of (rule_at rules i))) (length rules)

  least : (n : ℕ) → n < length rules → IsThroughCost product rules n (cost_of (rule_at rules n))
  least n h = is_least laws rules (costs_in insides) (costs_in outsides) all_costs n h

  in_runs : AreInCompleteRuns product rules positions
  in_runs = record {
    ascend = chosen_ascends (λ i. is_some (cost_of (rule_at rules i))) (length rules);
    are = λ n. (
      λ h.
          let c = chosen_has (λ i. is_some (cost_of (rule_at rules i))) (length rules) n h in
          let s = has_some (cost_of (rule_at rules n)) c.holds in
          has_run rules n s.0 (subst (IsThroughCost product rules n) s.1 (least n c.below)),
      λ r.
          let below = stands_below rules (0 ∷ []) r.run n r.complete.from_start r.stands in
          let s = has_cost rules n (cost_of (rule_at rules n)) (least n below) r in
          chosen_of (λ i. is_some (cost_of (rule_at rules i))) (length rules) n below (ap is_some s.1),
    );
  }

  rules_are : new ≡ map (rule_at rules) positions
  rules_are =
      filtered.are_rules
      ∙ ap (filter (λ r. is_some (cost_of r))) (sym (take_all (length rules) rules (omega arith)))
      ∙ by_positions (λ r. is_some (cost_of r)) rules (length rules) (omega arith)

  as_many : length costs ≡ length positions
  as_many =
      sym (length-map costs Some) ∙ ap length filtered.are_costs ∙ length-map new cost_of ∙ ap length rules_are ∙ length-map positions (rule_at rules)

  cost_at : (i : ℕ) → i < length positions → cost_of (rule_at rules (get_or positions i 0)) ≡ Some (get_or costs i 0)
  cost_at i h =
      let here : rule_at new i ≡ rule_at rules (get_or positions i 0) = ap (λ rs. rule_at rs i) rules_are ∙ get_or-map (rule_at rules) positions i 0 no_rule h in
      let long : length new ≡ length positions = ap length rules_are ∙ length-map positions (rule_at rules) in
      ap cost_of (sym here)
      ∙ sym (get_or-map cost_of new i no_rule None (omega (arith, h, long)))
      ∙ ap (λ vs. get_or vs i None) (sym filtered.are_costs)
      ∙ get_or-map Some costs i 0 None (omega (arith, h, as_many))

  through_costs : AreThroughCosts product rules positions costs
  through_costs = record {
    as_many = as_many;
    each = λ i h.
        let c = chosen_has (λ k. is_some (cost_of (rule_at rules k))) (length rules) (get_or positions i 0) (has_at positions i 0 h) in
        subst (IsThroughCost product rules (get_or positions i 0)) (cost_at i h) (least (get_or positions i 0) c.below);
  }

  -- what is filtered is what is in complete runs
  pub are_kept : AreKept product rules new costs
  are_kept = record { positions = positions; are_kept = in_runs; are_rules = rules_are; are_costs = through_costs }

  pub kept_series : HaveSameSeries product rules new
  kept_series = same_series laws rules (costs_in insides) (costs_in outsides) all_costs positions new in_runs rules_are

  pub kept_runs : AreAllInCompleteRuns product new
  kept_runs = all_in laws rules (costs_in insides) (costs_in outsides) all_costs positions new in_runs rules_are

  pub kept_closed : AreClosed new
  kept_closed = closed product new kept_runs

  pub kept_few : length new ≤ length rules
  kept_few = subst (λ xs. length xs ≤ length rules) (sym filtered.are_rules) (filter_few (λ r. is_some (cost_of r)) rules)

  pub kept_range : (count : ℕ) → AreInRange count rules → AreInRange count new
  kept_range count range = in_range laws rules (costs_in insides) (costs_in outsides) all_costs positions new in_runs rules_are count range

-- outside costs that were found over the same rules, and are in the same list
pub same_outsides : (product : ℕ → ℕ → ℕ) (rules lent : List (Rule ℕ)) (costs read : List (Option ℕ)) → lent ≡ rules → read ≡ costs → AreOutsides product lent costs → AreOutsides product rules read
same_outsides product rules lent costs read l r o = subst (AreOutsides product rules) (sym r) (subst (λ rs. AreOutsides product rs costs) l o)
