-- Matches, costs of what is left out, and edges of forward and backward application under other
-- numbers of labels, and over rules in another order.
use Rattle.std.specs.Prelude.{◌≡◌, ℕ, ◌<◌, Bool, true, false, List, [], ◌∷◌, length, map, take, drop, Option, Some, None, option_map, nat_eq, if◌then◌else◌, refl}
use Rattle.std.specs.List.{list_any}
use Rattle.std.proofs.Common.{arith, ap, sym, ◌∙◌, subst}
use Rattle.std.proofs.lemmas.List.{length-map}
use Rattle.tib_lex.specs.Lists.{IsReordering}
use Rattle.tib_lex.proofs.Lists.{has_mapped, mapped_has}
use Rattle.tib_lex.proofs.Members.{has_at, at_has}
use Rattle.tib_tree.specs.Trees.{Trees, none, tree, only, relabel, relabel_tree}
use Rattle.tib_cost.specs.Least.{IsLeast}
use Rattle.tib_cost.proofs.Least.{IsLeast-same}
use Rattle.tib_grammar.specs.Sides.{Symbol, label, hole, Side as SideFor, holes, holes_of, side_map}
use Rattle.tib_grammar.specs.Run.{rule_at, no_rule, AreRuns, cost}
use Rattle.tib_grammar.specs.declared.Rule.{Rule}
use Rattle.tib_grammar_file.proofs.Relabelled.{symbol_with, rule_with, rules_with, holes_with}
use Rattle.tib_inside.specs.Inside.{IsRunCost}
use Rattle.tib_match.specs.Matches.{IsMatchCost, IsMatch}
use Rattle.tib_transducer.specs.Rules.{transducer_rule, variables_of, variables_in}
use Rattle.tib_transducer.specs.declared.Variable.{Variable}
use Rattle.tib_transducer.specs.declared.Pair.{Pair}
use Rattle.tib_transducer.specs.declared.TransducerRule.{TransducerRule}
use Rattle.tib_apply.specs.Restrictions.{restricted_labels, Admits}
use Rattle.tib_apply.specs.Forward.{IsForwardEdge, deleted, forward_key, BeginsWith, IsAskedCost, IsDeletedCost}
use Rattle.tib_apply.specs.Backward.{IsBackwardEdge, backward_key}
use Rattle.tib_canon.proofs.EdgesByText.{key_with, edge_with}
use Rattle.tib_canon.proofs.NormalByText.{label_found}
use Rattle.tib_canon.proofs.Relabelled.{variable_with, node_with, left_with}
use Rattle.tib_operations.proofs.TransducerTables.{right_with, rule_with as move_with, holes_noted, variables_with}
use Rattle.tib_operations.proofs.MovesByText.{moves_with, move_at, pairs_with, admits_to, admits_from, forward_side, backward_side}

-- each rule of the one list is in the other under the other numbers, and each of the other comes
-- from one
pub record AreMoved (f : ℕ → ℕ) (xs ys : List (Rule ℕ)) : Type 0 where
  pub to : (n : ℕ) → n < length xs → (m : ℕ) × (m < length ys) × (rule_at ys m ≡ rule_with f (rule_at xs n))
  pub from : (m : ℕ) → m < length ys → (n : ℕ) × (n < length xs) × (rule_at ys m ≡ rule_with f (rule_at xs n))

pub reordered : (f : ℕ → ℕ) (xs ys : List (Rule ℕ)) → IsReordering (rules_with f xs) ys → AreMoved f xs ys
reordered f xs ys s = record {
  to = λ n h. at_has ys (rule_with f (rule_at xs n)) no_rule (s.to (rule_with f (rule_at xs n)) (mapped_has (rule_with f) xs (rule_at xs n) (has_at xs n no_rule h)));
  from = λ m h.
      let r = has_mapped (rule_with f) xs (rule_at ys m) (s.from (rule_at ys m) (has_at ys m no_rule h)) in
      let n = at_has xs r.0 no_rule r.1 in
      (n.0, n.1, sym r.2 ∙ ap (rule_with f) (sym n.2));
}

-- runs

-- rules with one state, one cost and the same states on the right
record AreAlike (r s : Rule ℕ) : Type 0 where
  left : r.left ≡ s.left
  states : holes_of r.right ≡ holes_of s.right
  cost : r.cost ≡ s.cost

record HasRuns (product : ℕ → ℕ → ℕ) (rules : List (Rule ℕ)) (qs : List ℕ) (c : ℕ) : Type 0 where
  runs : Trees ℕ
  are_runs : AreRuns rules qs runs
  costs : cost product rules runs ≡ c

module _ (product : ℕ → ℕ → ℕ) (xs ys : List (Rule ℕ)) (alike : (n : ℕ) → n < length xs → (m : ℕ) × (m < length ys) × AreAlike (rule_at xs n) (rule_at ys m)) where
  runs_moved : (qs : List ℕ) (runs : Trees ℕ) → AreRuns xs qs runs → HasRuns product ys qs (cost product xs runs)
  runs_moved [] none h = record { runs = none; are_runs = tt; costs = refl }
  runs_moved [] (tree n runs rest) h = absurd h
  runs_moved (q ∷ qs) none h = absurd h
  runs_moved (q ∷ qs) (tree n runs rest) h =
      let m = alike n h.0 in
      let below = runs_moved (holes_of (rule_at xs n).right) runs h.2 in
      let beside = runs_moved qs rest h.3 in
      record {
        runs = tree m.0 below.runs beside.runs;
        are_runs = (m.1, sym m.2.left ∙ h.1, subst (λ (ps : List ℕ). AreRuns ys ps below.runs) m.2.states below.are_runs, beside.are_runs);
        costs =
            ap (λ (c : ℕ). product (product c (cost product ys below.runs)) (cost product ys beside.runs)) (sym m.2.cost)
            ∙ ap (λ (c : ℕ). product (product (rule_at xs n).cost c) (cost product ys beside.runs)) below.costs
            ∙ ap (λ (c : ℕ). product (product (rule_at xs n).cost (cost product xs runs)) c) beside.costs;
      }

  run_cost_moved : (qs : List ℕ) (c : ℕ) → IsRunCost product xs qs c → IsRunCost product ys qs c
  run_cost_moved qs c h = let m = runs_moved qs h.runs h.are_runs in record { runs = m.runs; are_runs = m.are_runs; costs = m.costs ∙ h.costs }

module _ (product : ℕ → ℕ → ℕ) (f : ℕ → ℕ) (apart : (i j : ℕ) → f i ≡ f j → i ≡ j) (xs ys : List (Rule ℕ)) (moved : AreMoved f xs ys) where
  alike_to : (n : ℕ) → n < length xs → (m : ℕ) × (m < length ys) × AreAlike (rule_at xs n) (rule_at ys m)
  alike_to n h =
      let m = moved.to n h in (
        m.0,
        m.1,
        record {
          left = sym (ap (λ (r : Rule ℕ). r.left) m.2);
          states = sym (ap (λ (r : Rule ℕ). holes_of r.right) m.2 ∙ holes_with f (only (rule_at xs n).right));
          cost = sym (ap (λ (r : Rule ℕ). r.cost) m.2);
        },
      )

  alike_from : (m : ℕ) → m < length ys → (n : ℕ) × (n < length xs) × AreAlike (rule_at ys m) (rule_at xs n)
  alike_from m h =
      let n = moved.from m h in (
        n.0,
        n.1,
        record {
          left = ap (λ (r : Rule ℕ). r.left) n.2;
          states = ap (λ (r : Rule ℕ). holes_of r.right) n.2 ∙ holes_with f (only (rule_at xs n.0).right);
          cost = ap (λ (r : Rule ℕ). r.cost) n.2;
        },
      )

  -- the label of a rule that comes from one
  root_from : (n m g : ℕ) → rule_at ys m ≡ rule_with f (rule_at xs n) → (rule_at ys m).right.label ≡ label (f g) → (rule_at xs n).right.label ≡ label g
  root_from n m g e root =
      let l = label_found f (rule_at xs n).right.label (f g) (sym (ap (λ (r : Rule ℕ). r.right.label) e) ∙ root) in
      l.1 ∙ ap (λ (k : ℕ). label k) (sym (apart g l.0 l.2))

  -- matches

  module _ {P : Type 0} (r : P → P) where
    as_many : (ts : Trees (Symbol ℕ P)) → length (holes (relabel (node_with f r) ts)) ≡ length (holes ts)
    as_many ts = ap length (holes_noted f r ts) ∙ length-map (holes ts) r

    match_to : (ts : Trees (Symbol ℕ P)) (qs ss : List ℕ) (c : ℕ) → IsMatchCost product xs ts qs ss c → IsMatchCost product ys (relabel (node_with f r) ts) qs ss c
    match_to none [] [] c h = h
    match_to none [] (s ∷ ss) c h = absurd h
    match_to none (q ∷ qs) ss c h = absurd h
    match_to (tree (hole p) kids rest) [] ss c h = absurd h
    match_to (tree (hole p) kids rest) (q ∷ qs) [] c h = absurd h
    match_to (tree (hole p) kids rest) (q ∷ qs) (s ∷ ss) c h = (h.0, match_to rest qs ss c h.1)
    match_to (tree (label g) kids rest) [] ss c h = absurd h
    match_to (tree (label g) kids rest) (q ∷ qs) ss c h =
        let m = moved.to h.rule h.below in
        let many : length (holes (relabel (node_with f r) kids)) ≡ length (holes kids) = as_many kids in
        let states : holes (rule_at ys m.0).right.kids ≡ holes (rule_at xs h.rule).right.kids = ap (λ (x : Rule ℕ). holes x.right.kids) m.2 ∙ holes_with f (rule_at xs h.rule).right.kids in
        let below : IsMatchCost product ys (relabel (node_with f r) kids) (holes (rule_at xs h.rule).right.kids) (take (length (holes kids)) ss) h.inner =
        match_to kids (holes (rule_at xs h.rule).right.kids) (take (length (holes kids)) ss) h.inner h.kids
        in
        record {
          rule = m.0;
          below = m.1;
          left = ap (λ (x : Rule ℕ). x.left) m.2 ∙ h.left;
          root = ap (λ (x : Rule ℕ). x.right.label) m.2 ∙ ap (symbol_with f) h.root;
          inner = h.inner;
          outer = h.outer;
          kids = subst (λ (ps : List ℕ). IsMatchCost product ys (relabel (node_with f r) kids) ps (take (length (holes (relabel (node_with f r) kids))) ss) h.inner) (sym states)
              (subst (λ (k : ℕ). IsMatchCost product ys (relabel (node_with f r) kids) (holes (rule_at xs h.rule).right.kids) (take k ss) h.inner) (sym many) below);
          rest = subst (λ (k : ℕ). IsMatchCost product ys (relabel (node_with f r) rest) qs (drop k ss) h.outer) (sym many) (match_to rest qs (drop (length (holes kids)) ss) h.outer h.rest);
          costs = ap (λ (x : Rule ℕ). product (product x.cost h.inner) h.outer) m.2 ∙ h.costs;
        }

    match_from : (ts : Trees (Symbol ℕ P)) (qs ss : List ℕ) (c : ℕ) → IsMatchCost product ys (relabel (node_with f r) ts) qs ss c → IsMatchCost product xs ts qs ss c
    match_from none [] [] c h = h
    match_from none [] (s ∷ ss) c h = absurd h
    match_from none (q ∷ qs) ss c h = absurd h
    match_from (tree (hole p) kids rest) [] ss c h = absurd h
    match_from (tree (hole p) kids rest) (q ∷ qs) [] c h = absurd h
    match_from (tree (hole p) kids rest) (q ∷ qs) (s ∷ ss) c h = (h.0, match_from rest qs ss c h.1)
    match_from (tree (label g) kids rest) [] ss c h = absurd h
    match_from (tree (label g) kids rest) (q ∷ qs) ss c h =
        let n = moved.from h.rule h.below in
        let many : length (holes (relabel (node_with f r) kids)) ≡ length (holes kids) = as_many kids in
        let states : holes (rule_at ys h.rule).right.kids ≡ holes (rule_at xs n.0).right.kids = ap (λ (x : Rule ℕ). holes x.right.kids) n.2 ∙ holes_with f (rule_at xs n.0).right.kids in
        let below : IsMatchCost product ys (relabel (node_with f r) kids) (holes (rule_at xs n.0).right.kids) (take (length (holes kids)) ss) h.inner =
        subst (λ (k : ℕ). IsMatchCost product ys (relabel (node_with f r) kids) (holes (rule_at xs n.0).right.kids) (take k ss) h.inner) many
        (subst (λ (ps : List ℕ). IsMatchCost product ys (relabel (node_with f r) kids) ps (take (length (holes (relabel (node_with f r) kids))) ss) h.inner) states h.kids)
        in
        record {
          rule = n.0;
          below = n.1;
          left = sym (ap (λ (x : Rule ℕ). x.left) n.2) ∙ h.left;
          root = root_from n.0 h.rule g n.2 h.root;
          inner = h.inner;
          outer = h.outer;
          kids = match_from kids (holes (rule_at xs n.0).right.kids) (take (length (holes kids)) ss) h.inner below;
          rest = match_from rest qs (drop (length (holes kids)) ss) h.outer
              (subst (λ (k : ℕ). IsMatchCost product ys (relabel (node_with f r) rest) qs (drop k ss) h.outer) many h.rest);
          costs = sym (ap (λ (x : Rule ℕ). product (product x.cost h.inner) h.outer) n.2) ∙ h.costs;
        }

    is_match_to : (s : SideFor ℕ P) (q : ℕ) (ss : List ℕ) (v : Option ℕ) → IsMatch product xs s q ss v → IsMatch product ys (relabel_tree (node_with f r) s) q ss v
    is_match_to s q ss v h = IsLeast-same (match_to (only s) (q ∷ []) ss) (match_from (only s) (q ∷ []) ss) h

    is_match_from : (s : SideFor ℕ P) (q : ℕ) (ss : List ℕ) (v : Option ℕ) → IsMatch product ys (relabel_tree (node_with f r) s) q ss v → IsMatch product xs s q ss v
    is_match_from s q ss v h = IsLeast-same (match_from (only s) (q ∷ []) ss) (match_to (only s) (q ∷ []) ss) h

  -- what is left out

  abbrev asked_with : Option ℕ × ℕ → Option ℕ × ℕ
  asked_with x = (option_map f x.0, x.1)

  deleted_step : (b : Bool) (x : Option ℕ × ℕ) (ds es : List (Option ℕ × ℕ)) → ds ≡ map asked_with es → (if b then ds else asked_with x ∷ ds) ≡ map asked_with (if b then es else x ∷ es)
  deleted_step true x ds es e = e
  deleted_step false x ds es e = ap (λ (zs : List (Option ℕ × ℕ)). asked_with x ∷ zs) e

  deleted_with : (named : List ℕ) (vs : List Variable) (ss : List ℕ) → deleted named (map (variable_with f) vs) ss ≡ map asked_with (deleted named vs ss)
  deleted_with named [] ss = refl
  deleted_with named (x ∷ vs) [] = refl
  deleted_with named (x ∷ vs) (s ∷ ss) =
      deleted_step (list_any (nat_eq x.number) named) (x.label, s) (deleted named (map (variable_with f) vs) ss) (deleted named vs ss) (deleted_with named vs ss)

  begins_to : (g q c : ℕ) → BeginsWith product xs g q c → BeginsWith product ys (f g) q c
  begins_to g q c h =
      let m = moved.to h.rule h.below in
      let states : holes_of (rule_at ys m.0).right ≡ holes_of (rule_at xs h.rule).right = ap (λ (x : Rule ℕ). holes_of x.right) m.2 ∙ holes_with f (only (rule_at xs h.rule).right) in
      record {
        rule = m.0;
        below = m.1;
        left = ap (λ (x : Rule ℕ). x.left) m.2 ∙ h.left;
        root = ap (λ (x : Rule ℕ). x.right.label) m.2 ∙ ap (symbol_with f) h.root;
        inner = h.inner;
        runs = subst (λ (ps : List ℕ). IsRunCost product ys ps h.inner) (sym states) (run_cost_moved product xs ys alike_to (holes_of (rule_at xs h.rule).right) h.inner h.runs);
        costs = ap (λ (x : Rule ℕ). product x.cost h.inner) m.2 ∙ h.costs;
      }

  begins_from : (g q c : ℕ) → BeginsWith product ys (f g) q c → BeginsWith product xs g q c
  begins_from g q c h =
      let n = moved.from h.rule h.below in
      let states : holes_of (rule_at ys h.rule).right ≡ holes_of (rule_at xs n.0).right = ap (λ (x : Rule ℕ). holes_of x.right) n.2 ∙ holes_with f (only (rule_at xs n.0).right) in
      record {
        rule = n.0;
        below = n.1;
        left = sym (ap (λ (x : Rule ℕ). x.left) n.2) ∙ h.left;
        root = root_from n.0 h.rule g n.2 h.root;
        inner = h.inner;
        runs = subst (λ (ps : List ℕ). IsRunCost product xs ps h.inner) states (run_cost_moved product ys xs alike_from (holes_of (rule_at ys h.rule).right) h.inner h.runs);
        costs = sym (ap (λ (x : Rule ℕ). product x.cost h.inner) n.2) ∙ h.costs;
      }

  asked_to : (o : Option ℕ) (q c : ℕ) → IsAskedCost product xs o q c → IsAskedCost product ys (option_map f o) q c
  asked_to None q c h = run_cost_moved product xs ys alike_to (q ∷ []) c h
  asked_to (Some g) q c h = begins_to g q c h

  asked_from : (o : Option ℕ) (q c : ℕ) → IsAskedCost product ys (option_map f o) q c → IsAskedCost product xs o q c
  asked_from None q c h = run_cost_moved product ys xs alike_from (q ∷ []) c h
  asked_from (Some g) q c h = begins_from g q c h

  costs_to : (ds : List (Option ℕ × ℕ)) (c : ℕ) → IsDeletedCost product xs ds c → IsDeletedCost product ys (map asked_with ds) c
  costs_to [] c h = h
  costs_to (d ∷ ds) c h = (h.0, h.1, asked_to d.0 d.1 h.0 h.2, costs_to ds h.1 h.3, h.4)

  costs_from : (ds : List (Option ℕ × ℕ)) (c : ℕ) → IsDeletedCost product ys (map asked_with ds) c → IsDeletedCost product xs ds c
  costs_from [] c h = h
  costs_from (d ∷ ds) c h = (h.0, h.1, asked_from d.0 d.1 h.0 h.2, costs_from ds h.1 h.3, h.4)

  -- the parts that a rule leaves out, under the other numbers
  left_out : (r : TransducerRule ℕ) (ss : List ℕ) →
      deleted (variables_in (relabel_tree (right_with f) r.right)) (variables_of (relabel_tree (left_with f) r.left)) ss ≡ map asked_with (deleted (variables_in r.right) (variables_of r.left) ss)
  left_out r ss =
      ap (λ (ps : List (Pair ℕ)). deleted (map (λ x. x.variable) ps) (variables_of (relabel_tree (left_with f) r.left)) ss) (pairs_with f r.right)
      ∙ ap (λ (vs : List Variable). deleted (variables_in r.right) vs ss) (variables_with f (only r.left))
      ∙ deleted_with (variables_in r.right) (variables_of r.left) ss

  deleted_to :
      (r : TransducerRule ℕ) (ss : List ℕ) (v : Option ℕ) → IsLeast (IsDeletedCost product xs (deleted (variables_in r.right) (variables_of r.left) ss)) v →
      IsLeast (IsDeletedCost product ys (deleted (variables_in (relabel_tree (right_with f) r.right)) (variables_of (relabel_tree (left_with f) r.left)) ss)) v
  deleted_to r ss v h =
      subst (λ (ds : List (Option ℕ × ℕ)). IsLeast (IsDeletedCost product ys ds) v) (sym (left_out r ss))
      (IsLeast-same (costs_to (deleted (variables_in r.right) (variables_of r.left) ss)) (costs_from (deleted (variables_in r.right) (variables_of r.left) ss)) h)

  deleted_from :
      (r : TransducerRule ℕ) (ss : List ℕ) (v : Option ℕ) →
      IsLeast (IsDeletedCost product ys (deleted (variables_in (relabel_tree (right_with f) r.right)) (variables_of (relabel_tree (left_with f) r.left)) ss)) v →
      IsLeast (IsDeletedCost product xs (deleted (variables_in r.right) (variables_of r.left) ss)) v
  deleted_from r ss v h =
      IsLeast-same (costs_from (deleted (variables_in r.right) (variables_of r.left) ss)) (costs_to (deleted (variables_in r.right) (variables_of r.left) ss))
      (subst (λ (ds : List (Option ℕ × ℕ)). IsLeast (IsDeletedCost product ys ds) v) (left_out r ss) h)

  -- edges

  left_found : (s : Symbol ℕ Variable) (n : ℕ) → left_with f s ≡ label n → (g : ℕ) × (s ≡ label g) × (n ≡ f g)
  left_found (label g) n e = (g, refl, sym (label_told (f g) n e))
    where
      label_told : (g h : ℕ) → ◌≡◌ {A = Symbol ℕ Variable} (label g) (label h) → g ≡ h
      label_told g h e = cc
  left_found (hole x) n e = absurd (cc)

  module _ (moves : List (TransducerRule ℕ)) where
    pub forward_to :
        (key : ℕ × ℕ × ℕ) (o : ℕ × List ℕ) (e : Rule (ℕ × ℕ × ℕ)) → IsForwardEdge product xs moves key o e → IsForwardEdge product ys (moves_with f moves) key o (edge_with f e)
    forward_to key o e h =
        let r : TransducerRule ℕ = transducer_rule moves o.0 in
        let a : transducer_rule (moves_with f moves) o.0 ≡ move_with f r = move_at f moves o.0 h.below in
        let labels : List ℕ = restricted_labels (moves_with f moves) in
        record {
          below = omega (arith, h.below, length-map moves (move_with f));
          state = ap (λ (x : TransducerRule ℕ). x.state) a ∙ h.state;
          root = f h.root;
          is_root = ap (λ (x : TransducerRule ℕ). x.left.label) a ∙ ap (left_with f) h.is_root;
          admitted = admits_to f apart moves key.2 h.root h.admitted;
          matched = h.matched;
          is_match = subst (λ (x : TransducerRule ℕ). IsMatch product ys x.left key.0 o.1 (Some h.matched)) (sym a) (is_match_to (variable_with f) r.left key.0 o.1 (Some h.matched) h.is_match);
          deleted_cost = h.deleted_cost;
          is_deleted_cost =
              subst (λ (x : TransducerRule ℕ). IsLeast (IsDeletedCost product ys (deleted (variables_in x.right) (variables_of x.left) o.1)) (Some h.deleted_cost)) (sym a)
              (deleted_to r o.1 (Some h.deleted_cost) h.is_deleted_cost);
          left = h.left;
          right = ap (relabel_tree (key_with f)) h.right ∙ sym (forward_side f apart moves r.left r.right o.1) ∙ sym (ap (λ (x : TransducerRule ℕ). side_map (forward_key labels x.left o.1) x.right) a);
          costs = h.costs ∙ sym (ap (λ (x : TransducerRule ℕ). product (product x.cost h.matched) h.deleted_cost) a);
          within = h.within;
        }

    -- an edge under the other numbers is that of an edge under the old ones
    pub forward_from :
        (key : ℕ × ℕ × ℕ) (o : ℕ × List ℕ) (e : Rule (ℕ × ℕ × ℕ)) → IsForwardEdge product ys (moves_with f moves) key o e →
        (old : Rule (ℕ × ℕ × ℕ)) × (e ≡ edge_with f old) × IsForwardEdge product xs moves key o old
    forward_from key o e h =
        let below : o.0 < length moves = omega (arith, h.below, length-map moves (move_with f)) in
        let r : TransducerRule ℕ = transducer_rule moves o.0 in
        let a : transducer_rule (moves_with f moves) o.0 ≡ move_with f r = move_at f moves o.0 below in
        let root = left_found r.left.label h.root (sym (ap (λ (x : TransducerRule ℕ). x.left.label) a) ∙ h.is_root) in
        let labels : List ℕ = restricted_labels (moves_with f moves) in
        let right : e.right ≡ relabel_tree (key_with f) (side_map (forward_key (restricted_labels moves) r.left o.1) r.right) =
        h.right ∙ ap (λ (x : TransducerRule ℕ). side_map (forward_key labels x.left o.1) x.right) a ∙ forward_side f apart moves r.left r.right o.1
        in (
          record { left = e.left; right = side_map (forward_key (restricted_labels moves) r.left o.1) r.right; cost = e.cost },
          ap (λ (s : SideFor ℕ (ℕ × ℕ × ℕ)). record { left = e.left; right = s; cost = e.cost }) right,
          record {
            below = below;
            state = sym (ap (λ (x : TransducerRule ℕ). x.state) a) ∙ h.state;
            root = root.0;
            is_root = root.1;
            admitted = admits_from f apart moves key.2 root.0 (subst (Admits labels key.2) root.2 h.admitted);
            matched = h.matched;
            is_match = is_match_from (variable_with f) r.left key.0 o.1 (Some h.matched) (subst (λ (x : TransducerRule ℕ). IsMatch product ys x.left key.0 o.1 (Some h.matched)) a h.is_match);
            deleted_cost = h.deleted_cost;
            is_deleted_cost =
                deleted_from r o.1 (Some h.deleted_cost)
                (subst (λ (x : TransducerRule ℕ). IsLeast (IsDeletedCost product ys (deleted (variables_in x.right) (variables_of x.left) o.1)) (Some h.deleted_cost)) a h.is_deleted_cost);
            left = h.left;
            right = refl;
            costs = h.costs ∙ ap (λ (x : TransducerRule ℕ). product (product x.cost h.matched) h.deleted_cost) a;
            within = h.within;
          },
        )

    pub backward_to :
        (key : ℕ × ℕ × ℕ) (o : ℕ × List ℕ) (e : Rule (ℕ × ℕ × ℕ)) → IsBackwardEdge product moves xs key o e → IsBackwardEdge product (moves_with f moves) ys key o (edge_with f e)
    backward_to key o e h =
        let r : TransducerRule ℕ = transducer_rule moves o.0 in
        let a : transducer_rule (moves_with f moves) o.0 ≡ move_with f r = move_at f moves o.0 h.below in
        let labels : List ℕ = restricted_labels (moves_with f moves) in
        record {
          below = omega (arith, h.below, length-map moves (move_with f));
          state = ap (λ (x : TransducerRule ℕ). x.state) a ∙ h.state;
          root = f h.root;
          is_root = ap (λ (x : TransducerRule ℕ). x.left.label) a ∙ ap (left_with f) h.is_root;
          admitted = admits_to f apart moves key.2 h.root h.admitted;
          matched = h.matched;
          is_match = subst (λ (x : TransducerRule ℕ). IsMatch product ys x.right key.1 o.1 (Some h.matched)) (sym a) (is_match_to (λ (x : Pair ℕ). x) r.right key.1 o.1 (Some h.matched) h.is_match);
          left = h.left;
          right =
              ap (relabel_tree (key_with f)) h.right
              ∙ sym (backward_side f apart moves r.left r.right o.1)
              ∙ sym (ap (λ (x : TransducerRule ℕ). side_map (backward_key labels (holes_of x.right) o.1) x.left) a);
          costs = h.costs ∙ sym (ap (λ (x : TransducerRule ℕ). product x.cost h.matched) a);
          within = h.within;
        }

    pub backward_from :
        (key : ℕ × ℕ × ℕ) (o : ℕ × List ℕ) (e : Rule (ℕ × ℕ × ℕ)) → IsBackwardEdge product (moves_with f moves) ys key o e →
        (old : Rule (ℕ × ℕ × ℕ)) × (e ≡ edge_with f old) × IsBackwardEdge product moves xs key o old
    backward_from key o e h =
        let below : o.0 < length moves = omega (arith, h.below, length-map moves (move_with f)) in
        let r : TransducerRule ℕ = transducer_rule moves o.0 in
        let a : transducer_rule (moves_with f moves) o.0 ≡ move_with f r = move_at f moves o.0 below in
        let root = left_found r.left.label h.root (sym (ap (λ (x : TransducerRule ℕ). x.left.label) a) ∙ h.is_root) in
        let labels : List ℕ = restricted_labels (moves_with f moves) in
        let right : e.right ≡ relabel_tree (key_with f) (side_map (backward_key (restricted_labels moves) (holes_of r.right) o.1) r.left) =
        h.right ∙ ap (λ (x : TransducerRule ℕ). side_map (backward_key labels (holes_of x.right) o.1) x.left) a ∙ backward_side f apart moves r.left r.right o.1
        in (
          record { left = e.left; right = side_map (backward_key (restricted_labels moves) (holes_of r.right) o.1) r.left; cost = e.cost },
          ap (λ (s : SideFor ℕ (ℕ × ℕ × ℕ)). record { left = e.left; right = s; cost = e.cost }) right,
          record {
            below = below;
            state = sym (ap (λ (x : TransducerRule ℕ). x.state) a) ∙ h.state;
            root = root.0;
            is_root = root.1;
            admitted = admits_from f apart moves key.2 root.0 (subst (Admits labels key.2) root.2 h.admitted);
            matched = h.matched;
            is_match = is_match_from (λ (x : Pair ℕ). x) r.right key.1 o.1 (Some h.matched) (subst (λ (x : TransducerRule ℕ). IsMatch product ys x.right key.1 o.1 (Some h.matched)) a h.is_match);
            left = h.left;
            right = refl;
            costs = h.costs ∙ ap (λ (x : TransducerRule ℕ). product x.cost h.matched) a;
            within = h.within;
          },
        )
