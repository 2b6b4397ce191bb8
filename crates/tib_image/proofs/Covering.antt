-- A rule for each edge, and no other: a grammar over positions of an order of keys.
use Rattle.std.specs.Prelude.{◌≡◌, ℕ, ◌<◌, List, length, map, refl}
use Rattle.std.proofs.Common.{arith, sym, subst}
use Rattle.tib_lex.specs.Lists.{Has}
use Rattle.tib_grammar.specs.Sides.{label, Side as SideFor, side_map}
use Rattle.tib_grammar.specs.Run.{rule_at, no_rule}
use Rattle.tib_grammar.specs.Range.{AreInRange}
use Rattle.tib_grammar.specs.GrammarOf.{named_rule}
use Rattle.tib_grammar.specs.declared.Rule.{Rule}
use Rattle.tib_lex.proofs.Places.{distinct_at}
use Rattle.tib_lex.proofs.Alongs.{along_at, along_has}
use Rattle.tib_strings.specs.Rules.{string_rule, pairs_of}
use Rattle.tib_apply.specs.Restrictions.{Admits}
use Rattle.tib_image.specs.Restrictions.{restricted_labels}
use Rattle.tib_strings.specs.Cuts.{IsCut, spans}
use Rattle.tib_image.specs.Parsing.{first_key, key_at, parse_key, IsParseEdge, IsKeyGrammar, IsParseGrammar}
use Rattle.tib_strings.specs.declared.StringRule.{StringRule}
use Rattle.tib_apply.proofs.Leaves.{get_map, map_long}

-- a rule leads from the position k to the side, keys in place of positions, and costs c
pub record HasRuleTo (n : ℕ) (order : List (ℕ × ℕ × ℕ × ℕ)) (rules : List (Rule ℕ)) (k : ℕ) (side : SideFor ℕ (ℕ × ℕ × ℕ × ℕ)) (c : ℕ) : Type 0 where
  pub position : ℕ
  pub below : position < length rules
  pub left : (rule_at rules position).left ≡ k
  pub right : side_map (key_at n order) (rule_at rules position).right ≡ side
  pub costs : (rule_at rules position).cost ≡ c

-- The rules over positions of an order of keys, the key of the start first, are edges; and each
-- rule of the transducer with a cut of its right-hand side is one.
pub record CoversParse (moves : List (StringRule ℕ)) (string : List ℕ) (order : List (ℕ × ℕ × ℕ × ℕ)) (rules : List (Rule ℕ)) : Type 0 where
  pub long : 0 < length order
  pub start : key_at (length string) order 0 ≡ first_key (length string)
  pub in_range : AreInRange (length order) rules
  pub sound :
      (j : ℕ) → j < length rules →
      (o : ℕ × List ℕ) × IsParseEdge moves string (key_at (length string) order (rule_at rules j).left) o (named_rule (key_at (length string) order) (rule_at rules j))
  pub complete :
      (k m root : ℕ) (cut : List ℕ) → k < length order → m < length moves → (string_rule moves m).state ≡ (key_at (length string) order k).0 →
      (string_rule moves m).left.label ≡ label root → Admits (restricted_labels moves) (key_at (length string) order k).3 root →
      IsCut string (string_rule moves m).right (key_at (length string) order k).1 (key_at (length string) order k).2 cut →
      HasRuleTo (length string) order rules k
      (side_map (parse_key (restricted_labels moves) (pairs_of (string_rule moves m).right) (spans (string_rule moves m).right (key_at (length string) order k).1 cut)) (string_rule moves m).left)
      (string_rule moves m).cost

module _ {O : Type 0} (n : ℕ) (Edge : ℕ × ℕ × ℕ × ℕ → O → Rule (ℕ × ℕ × ℕ × ℕ) → Type 0) (order : List (ℕ × ℕ × ℕ × ℕ)) (rules : List (Rule ℕ)) (found : IsKeyGrammar n Edge order rules) where
  abbrev Gives : ℕ × O → Rule (ℕ × ℕ × ℕ × ℕ) → Type 0
  Gives from e = (from.0 < length order) × Edge (key_at n order from.0) from.1 e

  abbrev spare : Rule (ℕ × ℕ × ℕ × ℕ)
  spare = named_rule (key_at n order) no_rule

  -- each rule is an edge of a key
  pub edge_of :
      ((key : ℕ × ℕ × ℕ × ℕ) (o : O) (e : Rule (ℕ × ℕ × ℕ × ℕ)) → Edge key o e → e.left ≡ key) → (j : ℕ) → j < length rules →
      (o : O) × Edge (key_at n order (rule_at rules j).left) o (named_rule (key_at n order) (rule_at rules j))
  edge_of left j h =
      let a = along_at Gives found.edges.origins (map (named_rule (key_at n order)) rules) j spare found.edges.given (omega (arith, h, map_long (named_rule (key_at n order)) rules)) in
      let g : Gives a.0 (named_rule (key_at n order) (rule_at rules j)) = subst (Gives a.0) (get_map (named_rule (key_at n order)) rules j no_rule spare h) a.1 in
      let e : key_at n order (rule_at rules j).left ≡ key_at n order a.0.0 = left (key_at n order a.0.0) a.0.1 (named_rule (key_at n order) (rule_at rules j)) g.1 in
      (a.0.1, subst (λ k. Edge k a.0.1 (named_rule (key_at n order) (rule_at rules j))) (sym e) g.1)

  -- each edge of a key is a rule
  pub rule_of :
      (k : ℕ) (o : O) (e : Rule (ℕ × ℕ × ℕ × ℕ)) → k < length order → Edge (key_at n order k) o e →
      (j : ℕ) × (j < length rules) × Edge (key_at n order k) o (named_rule (key_at n order) (rule_at rules j))
  rule_of k o e h edge =
      let has : Has found.edges.origins (k, o) = found.edges.whole (k, o) e (h, edge) in
      let a = along_has Gives found.edges.origins (map (named_rule (key_at n order)) rules) (k, o) spare found.edges.given has in
      let below : a.0 < length rules = omega (arith, a.1, map_long (named_rule (key_at n order)) rules) in
      (a.0, below, (subst (Gives (k, o)) (get_map (named_rule (key_at n order)) rules a.0 no_rule spare below) a.2).1)

pub covers_parse :
    (moves : List (StringRule ℕ)) (string : List ℕ) (order : List (ℕ × ℕ × ℕ × ℕ)) (rules : List (Rule ℕ)) → IsParseGrammar moves string order rules → CoversParse moves string order rules
covers_parse moves string order rules found = record {
  long = found.long;
  start = found.start;
  in_range = found.in_range;
  sound = edge_of (length string) (IsParseEdge moves string) order rules found (λ key o e h. h.left);
  complete = λ k m root cut below_k below_m state is_root admitted is_cut.
      let r = rule_of (length string) (IsParseEdge moves string) order rules found k (m, cut)
      (record {
        left = key_at (length string) order k;
        right = side_map (parse_key (restricted_labels moves) (pairs_of (string_rule moves m).right) (spans (string_rule moves m).right (key_at (length string) order k).1 cut)) (string_rule moves m).left;
        cost = (string_rule moves m).cost;
      })
      below_k
      (record { below = below_m; state = state; root = root; is_root = is_root; admitted = admitted; is_cut = is_cut; left = refl; right = refl; costs = refl })
      in
      record {
        position = r.0;
        below = r.1;
        left = distinct_at order (rule_at rules r.0).left k (first_key (length string)) found.once (found.in_range r.0 r.1).0 below_k r.2.left;
        right = r.2.right;
        costs = r.2.costs;
      };
}
