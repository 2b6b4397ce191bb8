-- The reached sets of forward and backward application.
use Rattle.std.specs.Prelude.{◌≡◌, ℕ, List, length, map}
use Rattle.std.proofs.Common.{arith, ap, sym, ◌∙◌}
use Rattle.std.specs.Cmp.{IsTotalOrder}
use Rattle.std.proofs.lemmas.Cmp.{then_total, on_total, nat_cmp_total}
use Rattle.tib_grammar.specs.Sides.{holes_of}
use Rattle.tib_grammar.specs.Range.{AreInRange}
use Rattle.tib_grammar.specs.GrammarOf.{named_rule}
use Rattle.tib_grammar.specs.declared.Rule.{Rule}
use Rattle.tib_cost.proofs.Least.{IsLeast-unique}
use Rattle.tib_lex.proofs.Lists.{some_is}
use Rattle.tib_expand.specs.Reached.{IsReachedSet}
use Rattle.tib_expand.specs.Keys.{key_parts}
use Rattle.tib_transducer.specs.Rules.{transducer_rule}
use Rattle.tib_transducer.specs.declared.TransducerRule.{TransducerRule}
use Rattle.tib_apply.specs.KeyGrammars.{key_at, IsKeyGrammar}
use Rattle.tib_apply.specs.Operations.{key_cmp, key_entries, edge_parts, key_operation, IsOneSet}
use Rattle.tib_apply.specs.Forward.{IsForwardEdge}
use Rattle.tib_apply.specs.Backward.{IsBackwardEdge}
use Rattle.tib_key_edges.proofs.KeyOrders.{order_begins, order_once, edges_below, one_set}
use Rattle.tib_apply.specs.BackwardLaws.{same_rule}

pub key_total : IsTotalOrder key_cmp
key_total = then_total (on_total (λ (k : ℕ × ℕ × ℕ). k.0) nat_cmp_total) (then_total (on_total (λ (k : ℕ × ℕ × ℕ). k.1) nat_cmp_total) (on_total (λ (k : ℕ × ℕ × ℕ). k.2) nat_cmp_total))

module _ (Edge : ℕ × ℕ × ℕ → ℕ × List ℕ → Rule (ℕ × ℕ × ℕ) → Type 0) where
  -- the reached set is the grammar of the reached keys
  pub reached_grammar :
      (order : List (ℕ × ℕ × ℕ)) (rules : List (Rule ℕ)) → AreInRange (length order) rules → IsReachedSet (key_operation Edge) order (map (named_rule (key_at order)) rules) →
      IsKeyGrammar Edge order rules
  reached_grammar order rules range reached =
      let begins = order_begins key_cmp (0, 0, 0) Edge (λ e. holes_of e.right) (key_parts key_entries) edge_parts key_total reached.0.0 reached.0.1 order reached.0.2 in
      record {
        long = omega (arith, ap length begins.1);
        start = ap (λ (l : List (ℕ × ℕ × ℕ)). key_at l 0) begins.1;
        once = order_once key_cmp (0, 0, 0) Edge (λ e. holes_of e.right) (key_parts key_entries) edge_parts key_total reached.0.0 reached.0.1 order reached.0.2;
        in_range = range;
        edges = edges_below key_cmp (0, 0, 0) Edge (λ e. holes_of e.right) (key_parts key_entries) edge_parts order (length order) (map (named_rule (key_at order)) rules) reached.1;
      }

  pub one_key_set : ((k : ℕ × ℕ × ℕ) (o : ℕ × List ℕ) (e f : Rule (ℕ × ℕ × ℕ)) → Edge k o e → Edge k o f → e ≡ f) → IsOneSet (key_operation Edge)
  one_key_set one order other es fs h k = one_set key_cmp (0, 0, 0) Edge (λ e. holes_of e.right) (key_parts key_entries) edge_parts key_total one order other es fs h k

-- an origin gives a key one edge
pub same_forward_edge :
    (product : ℕ → ℕ → ℕ) (grammar : List (Rule ℕ)) (moves : List (TransducerRule ℕ)) (key : ℕ × ℕ × ℕ) (o : ℕ × List ℕ) (e f : Rule (ℕ × ℕ × ℕ)) →
    IsForwardEdge product grammar moves key o e → IsForwardEdge product grammar moves key o f → e ≡ f
same_forward_edge product grammar moves key o e f h k =
    let w : ℕ = (transducer_rule moves o.0).cost in
    let matched : h.matched ≡ k.matched = some_is (IsLeast-unique h.is_match k.is_match) in
    let deleted_cost : h.deleted_cost ≡ k.deleted_cost = some_is (IsLeast-unique h.is_deleted_cost k.is_deleted_cost) in
    same_rule e f (h.left ∙ sym k.left) (h.right ∙ sym k.right) (h.costs ∙ ap (λ x. product (product w x) h.deleted_cost) matched ∙ ap (product (product w k.matched)) deleted_cost ∙ sym k.costs)

pub same_backward_edge :
    (product : ℕ → ℕ → ℕ) (moves : List (TransducerRule ℕ)) (grammar : List (Rule ℕ)) (key : ℕ × ℕ × ℕ) (o : ℕ × List ℕ) (e f : Rule (ℕ × ℕ × ℕ)) →
    IsBackwardEdge product moves grammar key o e → IsBackwardEdge product moves grammar key o f → e ≡ f
same_backward_edge product moves grammar key o e f h k =
    let matched : h.matched ≡ k.matched = some_is (IsLeast-unique h.is_match k.is_match) in
    same_rule e f (h.left ∙ sym k.left) (h.right ∙ sym k.right) (h.costs ∙ ap (product (transducer_rule moves o.0).cost) matched ∙ sym k.costs)
