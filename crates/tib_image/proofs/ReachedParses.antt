-- The reached set of parsing.
use Rattle.std.specs.Prelude.{◌≡◌, ℕ, List, length, map}
use Rattle.std.proofs.Common.{arith, ap}
use Rattle.std.specs.Cmp.{IsTotalOrder}
use Rattle.std.proofs.lemmas.Cmp.{then_total, on_total, nat_cmp_total}
use Rattle.tib_lex.specs.Lists.{Has}
use Rattle.tib_grammar.specs.Sides.{holes_of}
use Rattle.tib_grammar.specs.Range.{AreInRange}
use Rattle.tib_grammar.specs.GrammarOf.{named_rule}
use Rattle.tib_grammar.specs.declared.Rule.{Rule}
use Rattle.tib_expand.specs.Reached.{IsReachedSet}
use Rattle.tib_expand.specs.Keys.{key_parts}
use Rattle.tib_image.specs.Parsing.{first_key, key_at, IsParseEdge, IsParseGrammar}
use Rattle.tib_image.specs.ParseOperation.{key_cmp, key_entries, edge_parts, parse}
use Rattle.tib_image.specs.ParseLaws.{same_edge}
use Rattle.tib_strings.specs.declared.StringRule.{StringRule}
use Rattle.tib_key_edges.proofs.KeyOrders.{order_begins, order_once, edges_below, one_set}

pub key_total : IsTotalOrder key_cmp
key_total =
    then_total
    (on_total (λ (k : ℕ × ℕ × ℕ × ℕ). k.0) nat_cmp_total)
    (then_total
    (on_total (λ (k : ℕ × ℕ × ℕ × ℕ). k.1) nat_cmp_total)
    (then_total (on_total (λ (k : ℕ × ℕ × ℕ × ℕ). k.2) nat_cmp_total) (on_total (λ (k : ℕ × ℕ × ℕ × ℕ). k.3) nat_cmp_total)))

module _ (moves : List (StringRule ℕ)) (string : List ℕ) where
  -- the reached set is the grammar of the reached keys
  pub reached_grammar :
      (order : List (ℕ × ℕ × ℕ × ℕ)) (rules : List (Rule ℕ)) → AreInRange (length order) rules → IsReachedSet (parse moves string) order (map (named_rule (key_at (length string) order)) rules) →
      IsParseGrammar moves string order rules
  reached_grammar order rules range reached =
      let begins = order_begins key_cmp (first_key (length string)) (IsParseEdge moves string) (λ e. holes_of e.right) (key_parts key_entries) edge_parts key_total reached.0.0 reached.0.1 order reached.0.2 in
      record {
        long = omega (arith, ap length begins.1);
        start = ap (λ (l : List (ℕ × ℕ × ℕ × ℕ)). key_at (length string) l 0) begins.1;
        once = order_once key_cmp (first_key (length string)) (IsParseEdge moves string) (λ e. holes_of e.right) (key_parts key_entries) edge_parts key_total reached.0.0 reached.0.1 order reached.0.2;
        in_range = range;
        edges = edges_below key_cmp (first_key (length string)) (IsParseEdge moves string) (λ e. holes_of e.right) (key_parts key_entries) edge_parts order (length order) (map (named_rule (key_at (length string) order)) rules) reached.1;
      }

pub one_parse_set :
    (moves : List (StringRule ℕ)) (string : List ℕ) (order other : List (ℕ × ℕ × ℕ × ℕ)) (edges more : List (Rule (ℕ × ℕ × ℕ × ℕ))) → IsReachedSet (parse moves string) order edges →
    IsReachedSet (parse moves string) other more → (order ≡ other) × ((e : Rule (ℕ × ℕ × ℕ × ℕ)) → Has edges e → Has more e)
one_parse_set moves string order other edges more h k =
    one_set key_cmp (first_key (length string)) (IsParseEdge moves string) (λ e. holes_of e.right) (key_parts key_entries) edge_parts key_total (same_edge moves string) order other edges more h k
