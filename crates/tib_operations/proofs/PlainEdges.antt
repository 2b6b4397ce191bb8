-- The edges of forward and backward application can be printed.
use Rattle.tib_cost.specs.declared.Scale.{Scale}
use Rattle.tib_cost.specs.declared.Scale.TheVariants as scales
use Rattle.std.proofs.Common.{◌≡◌, ℕ, ◌<◌, List, [], ◌∷◌, length, take, drop, refl, sym, ap, ◌∙◌, subst, arith, inl, inr, Option}
use Rattle.std.specs.Prelude.{Some, None}
use Rattle.std.specs.Ordering.{nat_cmp, ordering_then}
use Rattle.std.specs.declared.cmp.Ordering.TheVariants.{Equal}
use Rattle.tib_lex.specs.Lists.{Has}
use Rattle.tib_lex.proofs.Members.{has_at}
use Rattle.tib_tree.specs.Trees.{Trees, none, tree, only, relabel}
use Rattle.tib_grammar.specs.Sides.{Symbol, label, hole, Side as SideFor, HolesAreLeaves, holes, holes_of, symbol_map}
use Rattle.tib_grammar.specs.GrammarOf.{GrammarOf}
use Rattle.tib_grammar.specs.Run.{rule_at, AreRuns, cost}
use Rattle.tib_grammar.specs.declared.Rule.{Rule}
use Rattle.tib_grammar_file.specs.Printable.{IsPlainCost, HavePlainLabels, ArePrintable}
use Rattle.tib_expand.specs.Reached.{IsReached, IsReachedSet}
use Rattle.tib_expand.specs.Keys.{key_parts}
use Rattle.tib_expand.proofs.Reaching.{Laws}
use Rattle.tib_match.specs.Matches.{IsMatchCost}
use Rattle.tib_transducer.specs.Range.{EndInHoles}
use Rattle.tib_transducer.specs.Rules.{transducer_rule, variables_of, variables_in}
use Rattle.tib_transducer.specs.TransducerOf.{TransducerOf}
use Rattle.tib_transducer.specs.declared.TransducerRule.{TransducerRule}
use Rattle.tib_apply.specs.KeyGrammars.{key_at}
use Rattle.tib_apply.specs.Operations.{key_cmp, key_entries, edge_parts, forward_image, inverse_image}
use Rattle.tib_apply.specs.Restrictions.{restricted_labels}
use Rattle.tib_apply.specs.Forward.{IsForwardEdge, forward_key, deleted, IsAskedCost, IsDeletedCost}
use Rattle.tib_apply.specs.Backward.{IsBackwardEdge, backward_key}
use Rattle.tib_key_edges.proofs.KeyOrders.{op_laws, order_begins}
use Rattle.tib_apply.proofs.Reached.{key_total, same_forward_edge, same_backward_edge}
use Rattle.tib_canon.proofs.ConstructionExists.{IsEdgeOver, IsPlainConstruction}
use Rattle.tib_canon.proofs.ReachedOnce.{edge_given, ends_stand}
use Rattle.tib_canon.proofs.Sorting.{number_same}
use Rattle.tib_operations.specs.Moves.{AreLabelsPlain, ArePlainMoves}
use Rattle.tib_operations.specs.Forward.{forwarding}
use Rattle.tib_operations.specs.Backward.{inverting}
use Rattle.tib_lex.proofs.PairOrder.{both_equal}

-- keys over which an order is

same_key : {a b c d e f : ℕ} → a ≡ d → b ≡ e → c ≡ f → ◌≡◌ {A = ℕ × ℕ × ℕ} (a, b, c) (d, e, f)
same_key x y z = λ i. (x i, y i, z i)

pub key_same : (x y : ℕ × ℕ × ℕ) → key_cmp x y ≡ Equal → x ≡ y
key_same x y e =
    let first = both_equal (nat_cmp x.0 y.0) (ordering_then (nat_cmp x.1 y.1) (nat_cmp x.2 y.2)) e in
    let others = both_equal (nat_cmp x.1 y.1) (nat_cmp x.2 y.2) first.1 in
    same_key (number_same x.0 y.0 first.0) (number_same x.1 y.1 others.0) (number_same x.2 y.2 others.1)

pub forward_laws : (product : ℕ → ℕ → ℕ) (grammar : List (Rule ℕ)) (moves : List (TransducerRule ℕ)) → Laws (forward_image product grammar moves)
forward_laws product grammar moves =
    op_laws key_cmp (0, 0, 0) (IsForwardEdge product grammar moves) (λ e. holes_of e.right) (key_parts key_entries) edge_parts key_total (same_forward_edge product grammar moves)

pub backward_laws : (product : ℕ → ℕ → ℕ) (moves : List (TransducerRule ℕ)) (grammar : List (Rule ℕ)) → Laws (inverse_image product moves grammar)
backward_laws product moves grammar =
    op_laws key_cmp (0, 0, 0) (IsBackwardEdge product moves grammar) (λ e. holes_of e.right) (key_parts key_entries) edge_parts key_total (same_backward_edge product moves grammar)

-- sides with keys at their leaves

module _ {P K : Type 0} (key : P → K) where
  pub keyed_ends : (ts : Trees (Symbol ℕ P)) → HolesAreLeaves ts → HolesAreLeaves (relabel (symbol_map key) ts)
  keyed_ends none h = tt
  keyed_ends (tree (label g) kids rest) h = (keyed_ends kids h.0, keyed_ends rest h.1)
  keyed_ends (tree (hole x) none rest) h = keyed_ends rest h
  keyed_ends (tree (hole x) (tree s kids more) rest) h = absurd h

  pub keyed_plain : (labels : List (List ℕ)) (place : K → ℕ) (ts : Trees (Symbol ℕ P)) → AreLabelsPlain labels ts → HavePlainLabels labels (relabel (symbol_map place) (relabel (symbol_map key) ts))
  keyed_plain labels place none h = tt
  keyed_plain labels place (tree (label g) kids rest) h = (h.0, h.1, keyed_plain labels place kids h.2, keyed_plain labels place rest h.3)
  keyed_plain labels place (tree (hole x) kids rest) h = (keyed_plain labels place kids h.0, keyed_plain labels place rest h.1)

-- where each rule costs 0, so does everything

module _ (product : ℕ → ℕ → ℕ) (zeros : product 0 0 ≡ 0) where
  zero_product : (a b : ℕ) → a ≡ 0 → b ≡ 0 → product a b ≡ 0
  zero_product a b x y = ap (λ z. product z b) x ∙ ap (product 0) y ∙ zeros

  module _ (rules : List (Rule ℕ)) (free : (n : ℕ) → n < length rules → (rule_at rules n).cost ≡ 0) where
    runs_free : (qs : List ℕ) (runs : Trees ℕ) → AreRuns rules qs runs → cost product rules runs ≡ 0
    runs_free [] none h = refl
    runs_free [] (tree n runs rest) h = absurd h
    runs_free (q ∷ qs) none h = absurd h
    runs_free (q ∷ qs) (tree n runs rest) h =
        zero_product (product (rule_at rules n).cost (cost product rules runs)) (cost product rules rest)
        (zero_product (rule_at rules n).cost (cost product rules runs) (free n h.0) (runs_free (holes_of (rule_at rules n).right) runs h.2)) (runs_free qs rest h.3)

    match_free : {P : Type 0} (ts : Trees (Symbol ℕ P)) (qs ss : List ℕ) (c : ℕ) → IsMatchCost product rules ts qs ss c → c ≡ 0
    match_free none [] [] c h = h
    match_free none [] (s ∷ ss) c h = absurd h
    match_free none (q ∷ qs) ss c h = absurd h
    match_free (tree (hole p) kids rest) [] ss c h = absurd h
    match_free (tree (hole p) kids rest) (q ∷ qs) [] c h = absurd h
    match_free (tree (hole p) kids rest) (q ∷ qs) (s ∷ ss) c h = match_free rest qs ss c h.1
    match_free (tree (label g) kids rest) [] ss c h = absurd h
    match_free (tree (label g) kids rest) (q ∷ qs) ss c h =
        sym h.costs
        ∙ zero_product (product (rule_at rules h.rule).cost h.inner) h.outer
        (zero_product (rule_at rules h.rule).cost h.inner (free h.rule h.below)
        (match_free kids (holes (rule_at rules h.rule).right.kids) (take (length (holes kids)) ss) h.inner h.kids))
        (match_free rest qs (drop (length (holes kids)) ss) h.outer h.rest)

    asked_free : (o : Option ℕ) (q c : ℕ) → IsAskedCost product rules o q c → c ≡ 0
    asked_free None q c h = sym h.costs ∙ runs_free (q ∷ []) h.runs h.are_runs
    asked_free (Some f) q c h =
        sym h.costs
        ∙ zero_product (rule_at rules h.rule).cost h.inner (free h.rule h.below) (sym h.runs.costs ∙ runs_free (holes_of (rule_at rules h.rule).right) h.runs.runs h.runs.are_runs)

    deleted_free : (ds : List (Option ℕ × ℕ)) (c : ℕ) → IsDeletedCost product rules ds c → c ≡ 0
    deleted_free [] c h = h
    deleted_free (d ∷ ds) c h = sym h.4 ∙ zero_product h.0 h.1 (asked_free d.0 d.1 h.0 h.2) (deleted_free ds h.1 h.3)

module _
    (product : ℕ → ℕ → ℕ) (zeros : product 0 0 ≡ 0) (scale : Scale) (labels : List (List ℕ)) (form : GrammarOf) (t : TransducerOf) (p : ArePrintable scale labels form.rules)
    (q : ArePlainMoves scale labels t.rules) (leaves : EndInHoles t.rules) where
  forward_cost : (key : ℕ × ℕ × ℕ) (o : ℕ × List ℕ) (e : Rule (ℕ × ℕ × ℕ)) → IsForwardEdge product form.rules t.rules key o e → IsPlainCost scale e.cost
  forward_cost key o e h = by scale (λ n k. (p n k).cost) (q o.0 h.below).cost
    where
      by : (s : Scale) → ((n : ℕ) → n < length form.rules → IsPlainCost s (rule_at form.rules n).cost) → IsPlainCost s (transducer_rule t.rules o.0).cost → IsPlainCost s e.cost
      by scales.Plain free own = h.within
      by scales.Reversed free own = h.within
      by scales.Unweighted free own =
          h.costs
          ∙ zero_product product zeros (product (transducer_rule t.rules o.0).cost h.matched) h.deleted_cost
          (zero_product product zeros (transducer_rule t.rules o.0).cost h.matched own
          (match_free product zeros form.rules free (only (transducer_rule t.rules o.0).left) (key.0 ∷ []) o.1 h.matched h.is_match.attained.0))
          (deleted_free product zeros form.rules free (deleted (variables_in (transducer_rule t.rules o.0).right) (variables_of (transducer_rule t.rules o.0).left) o.1) h.deleted_cost
          h.is_deleted_cost.attained.0)

  forward_over :
      (order : List (ℕ × ℕ × ℕ)) (i : ℕ) (o : ℕ × List ℕ) (e : Rule (ℕ × ℕ × ℕ)) → IsReached (forward_image product form.rules t.rules) order → i < length order →
      IsForwardEdge product form.rules t.rules (key_at order i) o e → IsEdgeOver scale labels order e
  forward_over order i o e reached low edge =
      let r : TransducerRule ℕ = transducer_rule t.rules o.0 in
      let key = forward_key (restricted_labels t.rules) r.left o.1 in
      record {
        left = subst (Has order) (sym edge.left) (has_at order i (0, 0, 0) low);
        right = λ k h. ends_stand (forward_image product form.rules t.rules) (forward_laws product form.rules t.rules) key_same order reached i low o e k edge h;
        leaves = subst (λ (s : SideFor ℕ (ℕ × ℕ × ℕ)). HolesAreLeaves (only s)) (sym edge.right) (keyed_ends key (only r.right) (leaves o.0 edge.below).1);
        plain = λ place.
            subst (λ (s : SideFor ℕ (ℕ × ℕ × ℕ)). HavePlainLabels labels (relabel (symbol_map place) (only s))) (sym edge.right) (keyed_plain key labels place (only r.right) (q o.0 edge.below).right);
        cost = forward_cost (key_at order i) o e edge;
      }

  forwards_over :
      (order : List (ℕ × ℕ × ℕ)) (es : List (Rule (ℕ × ℕ × ℕ))) → IsReachedSet (forward_image product form.rules t.rules) order es → (e : Rule (ℕ × ℕ × ℕ)) → Has es e →
      IsEdgeOver scale labels order e
  forwards_over order es reached e h = elim (edge_given (forward_image product form.rules t.rules) (forward_laws product form.rules t.rules) order (length order) es reached.1 e h) [
    | inl s ↦ absurd s.1
    | inr m ↦ forward_over order m.0 m.2.0 e reached.0 m.1 m.2.1
  ]

  pub forward_plain : IsPlainConstruction scale labels (forwarding product t form)
  forward_plain = record {
    laws = forward_laws product form.rules t.rules;
    equal = key_same;
    parts = λ k. omega arith;
    some = λ order reached. (
        let begins = order_begins key_cmp (0, 0, 0) (IsForwardEdge product form.rules t.rules) (λ e. holes_of e.right) (key_parts key_entries) edge_parts key_total reached.0 reached.1 order reached.2 in
        omega (arith, ap length begins.1));
    begins = λ order. refl;
    edges = forwards_over;
  }

  backward_cost : (key : ℕ × ℕ × ℕ) (o : ℕ × List ℕ) (e : Rule (ℕ × ℕ × ℕ)) → IsBackwardEdge product t.rules form.rules key o e → IsPlainCost scale e.cost
  backward_cost key o e h = by scale (λ n k. (p n k).cost) (q o.0 h.below).cost
    where
      by : (s : Scale) → ((n : ℕ) → n < length form.rules → IsPlainCost s (rule_at form.rules n).cost) → IsPlainCost s (transducer_rule t.rules o.0).cost → IsPlainCost s e.cost
      by scales.Plain free own = h.within
      by scales.Reversed free own = h.within
      by scales.Unweighted free own =
          h.costs
          ∙ zero_product product zeros (transducer_rule t.rules o.0).cost h.matched own
          (match_free product zeros form.rules free (only (transducer_rule t.rules o.0).right) (key.1 ∷ []) o.1 h.matched h.is_match.attained.0)

  backward_over :
      (order : List (ℕ × ℕ × ℕ)) (i : ℕ) (o : ℕ × List ℕ) (e : Rule (ℕ × ℕ × ℕ)) → IsReached (inverse_image product t.rules form.rules) order → i < length order →
      IsBackwardEdge product t.rules form.rules (key_at order i) o e → IsEdgeOver scale labels order e
  backward_over order i o e reached low edge =
      let r : TransducerRule ℕ = transducer_rule t.rules o.0 in
      let key = backward_key (restricted_labels t.rules) (holes_of r.right) o.1 in
      record {
        left = subst (Has order) (sym edge.left) (has_at order i (0, 0, 0) low);
        right = λ k h. ends_stand (inverse_image product t.rules form.rules) (backward_laws product t.rules form.rules) key_same order reached i low o e k edge h;
        leaves = subst (λ (s : SideFor ℕ (ℕ × ℕ × ℕ)). HolesAreLeaves (only s)) (sym edge.right) (keyed_ends key (only r.left) (leaves o.0 edge.below).0);
        plain = λ place.
            subst (λ (s : SideFor ℕ (ℕ × ℕ × ℕ)). HavePlainLabels labels (relabel (symbol_map place) (only s))) (sym edge.right) (keyed_plain key labels place (only r.left) (q o.0 edge.below).left);
        cost = backward_cost (key_at order i) o e edge;
      }

  backwards_over :
      (order : List (ℕ × ℕ × ℕ)) (es : List (Rule (ℕ × ℕ × ℕ))) → IsReachedSet (inverse_image product t.rules form.rules) order es → (e : Rule (ℕ × ℕ × ℕ)) → Has es e →
      IsEdgeOver scale labels order e
  backwards_over order es reached e h = elim (edge_given (inverse_image product t.rules form.rules) (backward_laws product t.rules form.rules) order (length order) es reached.1 e h) [
    | inl s ↦ absurd s.1
    | inr m ↦ backward_over order m.0 m.2.0 e reached.0 m.1 m.2.1
  ]

  pub backward_plain : IsPlainConstruction scale labels (inverting product t form)
  backward_plain = record {
    laws = backward_laws product t.rules form.rules;
    equal = key_same;
    parts = λ k. omega arith;
    some = λ order reached. (
        let begins = order_begins key_cmp (0, 0, 0) (IsBackwardEdge product t.rules form.rules) (λ e. holes_of e.right) (key_parts key_entries) edge_parts key_total reached.0 reached.1 order reached.2 in
        omega (arith, ap length begins.1));
    begins = λ order. refl;
    edges = backwards_over;
  }
