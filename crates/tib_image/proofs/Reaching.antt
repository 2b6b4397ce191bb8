-- The reached set of the image of one tree.
use Rattle.std.specs.Prelude.{◌≡◌, ℕ, ◌<◌, List, length, map}
use Rattle.std.proofs.Common.{arith, ap, sym, subst}
use Rattle.std.specs.Cmp.{IsTotalOrder}
use Rattle.std.proofs.lemmas.Cmp.{then_total, on_total, nat_cmp_total}
use Rattle.std.proofs.lemmas.List.{get_or-map, length-map}
use Rattle.tib_lex.specs.Lists.{Has}
use Rattle.tib_lex.proofs.Alongs.{along_at, along_has}
use Rattle.tib_lex.proofs.Places.{distinct_at}
use Rattle.tib_tree.specs.Trees.{Tree}
use Rattle.tib_grammar.specs.Sides.{holes_of}
use Rattle.tib_grammar.specs.Run.{rule_at, no_rule}
use Rattle.tib_grammar.specs.Range.{AreInRange}
use Rattle.tib_grammar.specs.GrammarOf.{named_rule}
use Rattle.tib_grammar.specs.declared.Rule.{Rule}
use Rattle.tib_expand.specs.Reached.{IsReachedSet}
use Rattle.tib_expand.specs.Keys.{key_parts}
use Rattle.tib_key_edges.specs.Ends.{key_at}
use Rattle.tib_key_edges.proofs.KeyOrders.{order_begins, order_once, edges_below, one_set}
use Rattle.tib_transducer.specs.declared.TransducerRule.{TransducerRule}
use Rattle.tib_image.specs.Image.{key_cmp, key_entries, edge_parts, image_of, GivesEdge, IsImageEdge, IsImageGrammar}
use Rattle.tib_image.specs.Laws.{same_edge}

pub key_total : IsTotalOrder key_cmp
key_total = then_total (on_total (λ (k : ℕ × ℕ). k.0) nat_cmp_total) (on_total (λ (k : ℕ × ℕ). k.1) nat_cmp_total)

module _ (moves : List (TransducerRule ℕ)) (t : Tree ℕ) where
  -- the reached set is the grammar of its keys
  pub reached_grammar :
      (order : List (ℕ × ℕ)) (rules : List (Rule ℕ)) → AreInRange (length order) rules → IsReachedSet (image_of moves t) order (map (named_rule (key_at order)) rules) →
      IsImageGrammar moves t order rules
  reached_grammar order rules range reached =
      let begins = order_begins key_cmp (0, 0) (IsImageEdge moves t) (λ e. holes_of e.right) (key_parts key_entries) edge_parts key_total reached.0.0 reached.0.1 order reached.0.2 in
      record {
        long = omega (arith, ap length begins.1);
        start = ap (λ (l : List (ℕ × ℕ)). key_at l 0) begins.1;
        once = order_once key_cmp (0, 0) (IsImageEdge moves t) (λ e. holes_of e.right) (key_parts key_entries) edge_parts key_total reached.0.0 reached.0.1 order reached.0.2;
        in_range = range;
        edges = edges_below key_cmp (0, 0) (IsImageEdge moves t) (λ e. holes_of e.right) (key_parts key_entries) edge_parts order (length order) (map (named_rule (key_at order)) rules) reached.1;
      }

  -- there is one reached set
  pub one_image : (order other : List (ℕ × ℕ)) (es fs : List (Rule (ℕ × ℕ))) → IsReachedSet (image_of moves t) order es → IsReachedSet (image_of moves t) other fs → (order ≡ other) × ((e : Rule (ℕ × ℕ)) → Has es e → Has fs e)
  one_image order other es fs h k =
      one_set key_cmp (0, 0) (IsImageEdge moves t) (λ e. holes_of e.right) (key_parts key_entries) edge_parts key_total (λ q o e f a b. same_edge moves t q o e f a b) order other es fs h k

  -- a rule of the grammar of an origin
  pub record HasRule (order : List (ℕ × ℕ)) (rules : List (Rule ℕ)) (k m : ℕ) : Type 0 where
    pub position : ℕ
    pub below : position < length rules
    pub left : (rule_at rules position).left ≡ k
    pub edge : IsImageEdge moves t (key_at order k) m (named_rule (key_at order) (rule_at rules position))

  module _ (order : List (ℕ × ℕ)) (rules : List (Rule ℕ)) (found : IsImageGrammar moves t order rules) where
    -- each rule is an edge of the key on its left
    pub edge_of : (j : ℕ) → j < length rules → (m : ℕ) × IsImageEdge moves t (key_at order (rule_at rules j).left) m (named_rule (key_at order) (rule_at rules j))
    edge_of j h =
        let spare : Rule (ℕ × ℕ) = named_rule (key_at order) no_rule in
        let a = along_at (GivesEdge moves t order) found.edges.origins (map (named_rule (key_at order)) rules) j spare found.edges.given (omega (arith, h, length-map rules (named_rule (key_at order)))) in
        let g : GivesEdge moves t order a.0 (named_rule (key_at order) (rule_at rules j)) = subst (GivesEdge moves t order a.0) (get_or-map (named_rule (key_at order)) rules j no_rule spare h) a.1 in
        (a.0.1, subst (λ (k : ℕ × ℕ). IsImageEdge moves t k a.0.1 (named_rule (key_at order) (rule_at rules j))) (sym g.1.left) g.1)

    -- each edge of a key is a rule
    pub rule_of : (k m : ℕ) (e : Rule (ℕ × ℕ)) → k < length order → IsImageEdge moves t (key_at order k) m e → HasRule order rules k m
    rule_of k m e h edge =
        let spare : Rule (ℕ × ℕ) = named_rule (key_at order) no_rule in
        let has = found.edges.whole (k, m) e (h, edge) in
        let a = along_has (GivesEdge moves t order) found.edges.origins (map (named_rule (key_at order)) rules) (k, m) spare found.edges.given has in
        let below : a.0 < length rules = omega (arith, a.1, length-map rules (named_rule (key_at order))) in
        let g : GivesEdge moves t order (k, m) (named_rule (key_at order) (rule_at rules a.0)) = subst (GivesEdge moves t order (k, m)) (get_or-map (named_rule (key_at order)) rules a.0 no_rule spare below) a.2 in
        record {
          position = a.0;
          below = below;
          left = distinct_at order (rule_at rules a.0).left k (0, 0) found.once (found.in_range a.0 below).0 h g.1.left;
          edge = g.1;
        }
