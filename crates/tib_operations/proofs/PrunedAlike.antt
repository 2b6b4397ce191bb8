-- What pruning keeps does not depend on the labels of rules, nor on their order.
use Rattle.std.proofs.Common.{◌≡◌, ℕ, ◌<◌, List, [], ◌∷◌, length, map, refl, ap, sym, ◌∙◌, subst, arith, Option}
use Rattle.std.specs.Prelude.{Some}
use Rattle.std.proofs.lemmas.List.{length-map}
use Rattle.tib_lex.specs.Lists.{Has, Along}
use Rattle.tib_lex.proofs.Lists.{has_mapped, mapped_has}
use Rattle.tib_lex.proofs.Members.{has_at, at_has}
use Rattle.tib_tree.specs.Trees.{Trees, none, tree, only}
use Rattle.tib_grammar.specs.Sides.{holes_of}
use Rattle.tib_grammar.specs.Run.{rule_at, no_rule, AreRuns, cost}
use Rattle.tib_grammar.specs.declared.Rule.{Rule}
use Rattle.tib_grammar_file.proofs.Relabelled.{rule_with, rules_with, at_with, holes_with}
use Rattle.tib_cost.proofs.Least.{IsLeast-same}
use Rattle.tib_inside.specs.Inside.{IsRunCost, IsInside}
use Rattle.tib_inside.specs.Useful.{product_of}
use Rattle.tib_prune.specs.Contexts.{Context, gap, below, later, AreRunsAround, cost_around}
use Rattle.tib_prune.specs.Outside.{IsContextCost, IsOutside}
use Rattle.tib_prune.specs.Pruned.{IsWithinBeam, IsKept, ArePruned}
use Rattle.tib_canon.proofs.Alike.{AreAlike}

-- some rule of ys has the left state, the states and the cost of rule n of xs
pub record IsMatched (xs ys : List (Rule ℕ)) (n : ℕ) : Type 0 where
  pub position : ℕ
  pub low : position < length ys
  pub left : (rule_at ys position).left ≡ (rule_at xs n).left
  pub states : holes_of (rule_at ys position).right ≡ holes_of (rule_at xs n).right
  pub costs : (rule_at ys position).cost ≡ (rule_at xs n).cost

abbrev pub AreMatched : List (Rule ℕ) → List (Rule ℕ) → Type 0
AreMatched xs ys = (n : ℕ) → n < length xs → IsMatched xs ys n

-- a context run from some states
record HasAround (product : ℕ → ℕ → ℕ) (rules : List (Rule ℕ)) (q : ℕ) (qs : List ℕ) (c : ℕ) : Type 0 where
  context : Context ℕ
  are_runs : AreRunsAround rules q qs context
  costs : cost_around product rules context ≡ c

module _ (product : ℕ → ℕ → ℕ) (xs ys : List (Rule ℕ)) (m : AreMatched xs ys) where
  runs_moved : (qs : List ℕ) (runs : Trees ℕ) → AreRuns xs qs runs → IsRunCost product ys qs (cost product xs runs)
  runs_moved [] none h = record { runs = none; are_runs = tt; costs = refl }
  runs_moved [] (tree n runs rest) h = absurd h
  runs_moved (q ∷ qs) none h = absurd h
  runs_moved (q ∷ qs) (tree n runs rest) h =
      let k = m n h.0 in
      let inner = runs_moved (holes_of (rule_at xs n).right) runs h.2 in
      let behind = runs_moved qs rest h.3 in
      record {
        runs = tree k.position inner.runs behind.runs;
        are_runs = (k.low, k.left ∙ h.1, subst (λ (ps : List ℕ). AreRuns ys ps inner.runs) (sym k.states) inner.are_runs, behind.are_runs);
        costs = λ i. product (product (k.costs i) (inner.costs i)) (behind.costs i);
      }

  around_moved : (q : ℕ) (qs : List ℕ) (c : Context ℕ) → AreRunsAround xs q qs c → HasAround product ys q qs (cost_around product xs c)
  around_moved q [] c h = absurd h
  around_moved q (p ∷ qs) (gap rest) h =
      let r = runs_moved qs rest h.1 in record { context = gap r.runs; are_runs = (h.0, r.are_runs); costs = r.costs }
  around_moved q (p ∷ qs) (below n c rest) h =
      let k = m n h.0 in
      let inner = around_moved q (holes_of (rule_at xs n).right) c h.2 in
      let behind = runs_moved qs rest h.3 in
      record {
        context = below k.position inner.context behind.runs;
        are_runs = (k.low, k.left ∙ h.1, subst (λ (ps : List ℕ). AreRunsAround ys q ps inner.context) (sym k.states) inner.are_runs, behind.are_runs);
        costs = λ i. product (product (k.costs i) (inner.costs i)) (behind.costs i);
      }
  around_moved q (p ∷ qs) (later n runs c) h =
      let k = m n h.0 in
      let inner = runs_moved (holes_of (rule_at xs n).right) runs h.2 in
      let behind = around_moved q qs c h.3 in
      record {
        context = later k.position inner.runs behind.context;
        are_runs = (k.low, k.left ∙ h.1, subst (λ (ps : List ℕ). AreRuns ys ps inner.runs) (sym k.states) inner.are_runs, behind.are_runs);
        costs = λ i. product (product (k.costs i) (inner.costs i)) (behind.costs i);
      }

  run_cost_moved : (qs : List ℕ) (c : ℕ) → IsRunCost product xs qs c → IsRunCost product ys qs c
  run_cost_moved qs c r = let s = runs_moved qs r.runs r.are_runs in record { runs = s.runs; are_runs = s.are_runs; costs = s.costs ∙ r.costs }

  context_cost_moved : (q c : ℕ) → IsContextCost product xs q c → IsContextCost product ys q c
  context_cost_moved q c r =
      let s = around_moved q (0 ∷ []) r.context r.are_runs in record { context = s.context; are_runs = s.are_runs; costs = s.costs ∙ r.costs }

module _ (product : ℕ → ℕ → ℕ) (xs ys : List (Rule ℕ)) (to : AreMatched xs ys) (from : AreMatched ys xs) where
  inside_moved : (q : ℕ) (v : Option ℕ) → IsInside product xs q v → IsInside product ys q v
  inside_moved q v i = IsLeast-same (run_cost_moved product xs ys to (q ∷ [])) (run_cost_moved product ys xs from (q ∷ [])) i

  outside_moved : (q : ℕ) (v : Option ℕ) → IsOutside product xs q v → IsOutside product ys q v
  outside_moved q v o = IsLeast-same (context_cost_moved product xs ys to q) (context_cost_moved product ys xs from q) o

  insides_moved : (qs cs : List ℕ) → Along (λ q d. IsInside product xs q (Some d)) qs cs → Along (λ q d. IsInside product ys q (Some d)) qs cs
  insides_moved [] [] a = tt
  insides_moved [] (c ∷ cs) a = absurd a
  insides_moved (q ∷ qs) [] a = absurd a
  insides_moved (q ∷ qs) (c ∷ cs) a = (inside_moved q (Some c) a.0, insides_moved qs cs a.1)

  beam_moved : (beam c : ℕ) → IsWithinBeam product xs beam c → IsWithinBeam product ys beam c
  beam_moved beam c w = record { best = w.best; is_best = inside_moved 0 (Some w.best) w.is_best; close = w.close }

  -- the match of a rule that is kept is kept
  kept_moved : (beam n : ℕ) (k : IsKept product xs beam n) → IsKept product ys beam (to n k.through.position).position
  kept_moved beam n k =
      let t = k.through in
      let m = to n t.position in
      record {
        cost = k.cost;
        through = record {
          position = m.low;
          outside = t.outside;
          is_outside = subst (λ (q : ℕ). IsOutside product ys q (Some t.outside)) (sym m.left) (outside_moved (rule_at xs n).left (Some t.outside) t.is_outside);
          insides = t.insides;
          are_insides = subst (λ (qs : List ℕ). Along (λ q d. IsInside product ys q (Some d)) qs t.insides) (sym m.states) (insides_moved (holes_of (rule_at xs n).right) t.insides t.are_insides);
          is_product = ap (λ (w : ℕ). product t.outside (product w (product_of product t.insides))) m.costs ∙ t.is_product;
          within = t.within;
        };
        within_beam = beam_moved beam k.cost k.within_beam;
      }

-- rules that have the same members but for the numbers of labels
module _ (f : ℕ → ℕ) (xs ys : List (Rule ℕ)) (alike : AreAlike (rules_with f xs) ys) where
  states_with : (r : Rule ℕ) → holes_of (rule_with f r).right ≡ holes_of r.right
  states_with r = holes_with f (only r.right)

  -- the rule under the other numbers is in the other list
  moved_at : (n : ℕ) → n < length xs → (p : ℕ) × (p < length ys) × (rule_at ys p ≡ rule_with f (rule_at xs n))
  moved_at n h = at_has ys (rule_with f (rule_at xs n)) no_rule (alike.to (rule_with f (rule_at xs n)) (mapped_has (rule_with f) xs (rule_at xs n) (has_at xs n no_rule h)))

  -- and each rule of that list is such a rule
  back_at : (n : ℕ) → n < length ys → (p : ℕ) × (p < length xs) × (rule_with f (rule_at xs p) ≡ rule_at ys n)
  back_at n h =
      let x = has_mapped (rule_with f) xs (rule_at ys n) (alike.from (rule_at ys n) (has_at ys n no_rule h)) in
      let p = at_has xs x.0 no_rule x.1 in
      (p.0, p.1, ap (rule_with f) p.2 ∙ x.2)

  abbrev moved_to : AreMatched xs ys
  moved_to n h =
      let p = moved_at n h in
      record {
        position = p.0;
        low = p.1;
        left = ap (λ (r : Rule ℕ). r.left) p.2;
        states = ap (λ (r : Rule ℕ). holes_of r.right) p.2 ∙ states_with (rule_at xs n);
        costs = ap (λ (r : Rule ℕ). r.cost) p.2;
      }

  abbrev moved_from : AreMatched ys xs
  moved_from n h =
      let p = back_at n h in
      record {
        position = p.0;
        low = p.1;
        left = ap (λ (r : Rule ℕ). r.left) p.2;
        states = sym (states_with (rule_at xs p.0)) ∙ ap (λ (r : Rule ℕ). holes_of r.right) p.2;
        costs = ap (λ (r : Rule ℕ). r.cost) p.2;
      }

  -- what is kept of them has the same members but for these numbers too
  module _ (product : ℕ → ℕ → ℕ) (beam : ℕ) (new other : List (Rule ℕ)) (a : ArePruned product xs beam new) (b : ArePruned product ys beam other) where
    kept_to : (r : Rule ℕ) → Has (rules_with f new) r → Has other r
    kept_to r h =
        let x = has_mapped (rule_with f) new r h in
        let n = has_mapped (rule_at xs) a.positions x.0 (subst (λ (rs : List (Rule ℕ)). Has rs x.0) a.are_rules x.1) in
        let k = (a.are_kept n.0).0 n.1 in
        let there = (b.are_kept (moved_to n.0 k.through.position).position).1 (kept_moved product xs ys moved_to moved_from beam n.0 k) in
        let is : rule_at ys (moved_at n.0 k.through.position).0 ≡ r = (moved_at n.0 k.through.position).2 ∙ ap (rule_with f) n.2 ∙ x.2 in
        subst (Has other) is (subst (λ (rs : List (Rule ℕ)). Has rs (rule_at ys (moved_at n.0 k.through.position).0)) (sym b.are_rules) (mapped_has (rule_at ys) b.positions (moved_at n.0 k.through.position).0 there))

    kept_from : (r : Rule ℕ) → Has other r → Has (rules_with f new) r
    kept_from r h =
        let n = has_mapped (rule_at ys) b.positions r (subst (λ (rs : List (Rule ℕ)). Has rs r) b.are_rules h) in
        let k = (b.are_kept n.0).0 n.1 in
        let p : ℕ = (back_at n.0 k.through.position).0 in
        let there = (a.are_kept p).1 (kept_moved product ys xs moved_from moved_to beam n.0 k) in
        let here : Has new (rule_at xs p) = subst (λ (rs : List (Rule ℕ)). Has rs (rule_at xs p)) (sym a.are_rules) (mapped_has (rule_at xs) a.positions p there) in
        subst (Has (rules_with f new)) ((back_at n.0 k.through.position).2 ∙ n.2) (mapped_has (rule_with f) new (rule_at xs p) here)

    pub kept_alike : AreAlike (rules_with f new) other
    kept_alike = record { to = kept_to; from = kept_from }

-- what is kept is among the rules
pub kept_among : (product : ℕ → ℕ → ℕ) (rules : List (Rule ℕ)) (beam : ℕ) (new : List (Rule ℕ)) → ArePruned product rules beam new → (r : Rule ℕ) → Has new r → Has rules r
kept_among product rules beam new a r h =
    let n = has_mapped (rule_at rules) a.positions r (subst (λ (rs : List (Rule ℕ)). Has rs r) a.are_rules h) in
    subst (Has rules) n.2 (has_at rules n.0 no_rule ((a.are_kept n.0).0 n.1).through.position)
