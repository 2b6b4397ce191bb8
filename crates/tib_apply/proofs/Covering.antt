-- A rule for each edge, and no other: a grammar over positions of an order of keys.
use Rattle.std.specs.Prelude.{◌≡◌, ℕ, ◌<◌, ◌≤◌, List, [], ◌∷◌, length, map, Bool, Option, refl}
use Rattle.std.proofs.Common.{zero, suc, arith, ap, sym, ◌∙◌, subst, inl, inr, get_or}
use Rattle.tib_lex.specs.Lists.{Has, Distinct, Along}
use Rattle.tib_tree.specs.Trees.{only}
use Rattle.tib_grammar.specs.Sides.{label, Side as SideFor, holes_of, side_map}
use Rattle.tib_grammar.specs.Run.{rule_at, no_rule}
use Rattle.tib_grammar.specs.Range.{AreInRange}
use Rattle.tib_grammar.specs.GrammarOf.{named_rule}
use Rattle.tib_grammar.specs.declared.Rule.{Rule}
use Rattle.tib_grammar.proofs.Members.{has_at}
use Rattle.tib_cost.specs.Semiring.{ProductLaws, most}
use Rattle.tib_cost.proofs.Least.{IsLeast-unique, at_least_right, grows_both}
use Rattle.tib_lex.proofs.Places.{distinct_at}
use Rattle.tib_lex.proofs.Alongs.{along_at, along_has}
use Rattle.tib_lex.proofs.Lists.{some_is}
use Rattle.tib_transducer.specs.Rules.{transducer_rule, variables_of, variables_in}
use Rattle.tib_transducer.specs.declared.TransducerRule.{TransducerRule}
use Rattle.tib_apply.specs.Restrictions.{restricted_labels, Admits}
use Rattle.tib_match.specs.Matches.{IsMatchCost}
use Rattle.tib_apply.specs.KeyGrammars.{key_at, IsKeyGrammar}
use Rattle.tib_apply.specs.Backward.{backward_key, IsBackwardEdge}
use Rattle.tib_apply.specs.Forward.{forward_key, deleted, IsDeletedCost, IsForwardEdge}
use Rattle.tib_apply.proofs.Leaves.{get_map, map_long}
use Rattle.tib_match.proofs.Steps.{three_within}
use Rattle.tib_inside.specs.Inside.{AreInsides}
use Rattle.tib_apply.proofs.DeletedCosts.{deleted_least, deleted_is}
use Rattle.tib_match.proofs.MatchCosts.{least_at, match_costs, match_is_least}

-- a rule leads from the position k to the side, keys in place of positions, and costs at most c
pub record HasRuleTo (order : List (ℕ × ℕ × ℕ)) (rules : List (Rule ℕ)) (k : ℕ) (side : SideFor ℕ (ℕ × ℕ × ℕ)) (c : ℕ) : Type 0 where
  pub position : ℕ
  pub below : position < length rules
  pub left : (rule_at rules position).left ≡ k
  pub right : side_map (key_at order) (rule_at rules position).right ≡ side
  pub costs : (rule_at rules position).cost ≤ c

-- The rules over positions of an order of keys, the key of the starts first, are edges; and
-- whatever a rule of the transducer and a match of its right-hand side cost together, an edge costs
-- no more.
pub record CoversBackward (product : ℕ → ℕ → ℕ) (moves : List (TransducerRule ℕ)) (grammar : List (Rule ℕ)) (order : List (ℕ × ℕ × ℕ)) (rules : List (Rule ℕ)) : Type 0 where
  pub long : 0 < length order
  pub start : key_at order 0 ≡ (0, 0, 0)
  pub in_range : AreInRange (length order) rules
  pub sound :
      (j : ℕ) → j < length rules →
      (o : ℕ × List ℕ) × IsBackwardEdge product moves grammar (key_at order (rule_at rules j).left) o (named_rule (key_at order) (rule_at rules j))
  pub complete :
      (k n root : ℕ) (ss : List ℕ) (c : ℕ) → k < length order → n < length moves → (transducer_rule moves n).state ≡ (key_at order k).0 →
      (transducer_rule moves n).left.label ≡ label root → Admits (restricted_labels moves) (key_at order k).2 root →
      IsMatchCost product grammar (only (transducer_rule moves n).right) ((key_at order k).1 ∷ []) ss c →
      product (transducer_rule moves n).cost c ≤ most →
      HasRuleTo order rules k
      (side_map (backward_key (restricted_labels moves) (holes_of (transducer_rule moves n).right) ss) (transducer_rule moves n).left)
      (product (transducer_rule moves n).cost c)

-- The rules over positions of an order of keys, the key of the starts first, are edges; and
-- whatever a rule of the transducer, a match of its left-hand side and runs for what is left out
-- cost together, an edge costs no more.
pub record CoversForward (product : ℕ → ℕ → ℕ) (grammar : List (Rule ℕ)) (moves : List (TransducerRule ℕ)) (order : List (ℕ × ℕ × ℕ)) (rules : List (Rule ℕ)) : Type 0 where
  pub long : 0 < length order
  pub start : key_at order 0 ≡ (0, 0, 0)
  pub in_range : AreInRange (length order) rules
  pub sound :
      (j : ℕ) → j < length rules →
      (o : ℕ × List ℕ) × IsForwardEdge product grammar moves (key_at order (rule_at rules j).left) o (named_rule (key_at order) (rule_at rules j))
  pub complete :
      (k n root : ℕ) (ss : List ℕ) (c d : ℕ) → k < length order → n < length moves → (transducer_rule moves n).state ≡ (key_at order k).1 →
      (transducer_rule moves n).left.label ≡ label root → Admits (restricted_labels moves) (key_at order k).2 root →
      IsMatchCost product grammar (only (transducer_rule moves n).left) ((key_at order k).0 ∷ []) ss c →
      IsDeletedCost product grammar (deleted (variables_in (transducer_rule moves n).right) (variables_of (transducer_rule moves n).left) ss) d →
      product (product (transducer_rule moves n).cost c) d ≤ most →
      HasRuleTo order rules k
      (side_map (forward_key (restricted_labels moves) (transducer_rule moves n).left ss) (transducer_rule moves n).right)
      (product (product (transducer_rule moves n).cost c) d)

module _ {O : Type 0} (Edge : ℕ × ℕ × ℕ → O → Rule (ℕ × ℕ × ℕ) → Type 0) (order : List (ℕ × ℕ × ℕ)) (rules : List (Rule ℕ)) (found : IsKeyGrammar Edge order rules) where
  abbrev Gives : ℕ × O → Rule (ℕ × ℕ × ℕ) → Type 0
  Gives from e = (from.0 < length order) × Edge (key_at order from.0) from.1 e

  abbrev spare : Rule (ℕ × ℕ × ℕ)
  spare = named_rule (key_at order) no_rule

  -- each rule is an edge of a key
  pub edge_of : ((key : ℕ × ℕ × ℕ) (o : O) (e : Rule (ℕ × ℕ × ℕ)) → Edge key o e → e.left ≡ key) → (j : ℕ) → j < length rules →
      (o : O) × Edge (key_at order (rule_at rules j).left) o (named_rule (key_at order) (rule_at rules j))
  edge_of left j h =
      let a = along_at Gives found.edges.origins (map (named_rule (key_at order)) rules) j spare found.edges.given (omega (arith, h, map_long (named_rule (key_at order)) rules)) in
      let g : Gives a.0 (named_rule (key_at order) (rule_at rules j)) = subst (Gives a.0) (get_map (named_rule (key_at order)) rules j no_rule spare h) a.1 in
      let e : key_at order (rule_at rules j).left ≡ key_at order a.0.0 = left (key_at order a.0.0) a.0.1 (named_rule (key_at order) (rule_at rules j)) g.1 in
      (a.0.1, subst (λ k. Edge k a.0.1 (named_rule (key_at order) (rule_at rules j))) (sym e) g.1)

  -- each edge of a key is a rule
  pub rule_of : (k : ℕ) (o : O) (e : Rule (ℕ × ℕ × ℕ)) → k < length order → Edge (key_at order k) o e →
      (j : ℕ) × (j < length rules) × Edge (key_at order k) o (named_rule (key_at order) (rule_at rules j))
  rule_of k o e h edge =
      let has : Has found.edges.origins (k, o) = found.edges.whole (k, o) e (h, edge) in
      let a = along_has Gives found.edges.origins (map (named_rule (key_at order)) rules) (k, o) spare found.edges.given has in
      let below : a.0 < length rules = omega (arith, a.1, map_long (named_rule (key_at order)) rules) in
      (a.0, below, (subst (Gives (k, o)) (get_map (named_rule (key_at order)) rules a.0 no_rule spare below) a.2).1)

within_at : {a b m : ℕ} → a ≤ b → b ≤ m → a ≤ m
within_at h k = omega arith

within_from : {a b m : ℕ} → a ≡ b → b ≤ m → a ≤ m
within_from h k = omega arith

pub covers_backward :
    {levelled weighted : Bool} {product : ℕ → ℕ → ℕ} (laws : ProductLaws levelled weighted product) (moves : List (TransducerRule ℕ)) (grammar : List (Rule ℕ))
    (order : List (ℕ × ℕ × ℕ)) (rules : List (Rule ℕ)) → IsKeyGrammar (IsBackwardEdge product moves grammar) order rules → CoversBackward product moves grammar order rules
covers_backward {product = product} laws moves grammar order rules found = record {
  long = found.long;
  start = found.start;
  in_range = found.in_range;
  sound = edge_of (IsBackwardEdge product moves grammar) order rules found (λ key o e h. h.left);
  complete = λ k n root ss c below_k below_n state is_root admitted is_match within.
      let w : ℕ = (transducer_rule moves n).cost in
      let fits : c ≤ most = within_at (at_least_right laws w c) within in
      let least = least_at (match_costs product grammar (only (transducer_rule moves n).right) ((key_at order k).1 ∷ []) ss)
      (match_is_least laws grammar (only (transducer_rule moves n).right) ((key_at order k).1 ∷ []) ss) c is_match fits
      in
      let lower : product w least.0 ≤ product w c = laws.grows w least.0 c least.2 in
      let r = rule_of (IsBackwardEdge product moves grammar) order rules found k (n, ss)
      (record {
        left = key_at order k;
        right = side_map (backward_key (restricted_labels moves) (holes_of (transducer_rule moves n).right) ss) (transducer_rule moves n).left;
        cost = product w least.0;
      })
      below_k
      (record {
        below = below_n;
        state = state;
        root = root;
        is_root = is_root;
        admitted = admitted;
        matched = least.0;
        is_match = least.1;
        left = refl;
        right = refl;
        costs = refl;
        within = within_at lower within;
      })
      in
      let same : r.2.matched ≡ least.0 = some_is (IsLeast-unique r.2.is_match least.1) in
      record {
        position = r.0;
        below = r.1;
        left = distinct_at order (rule_at rules r.0).left k (0, 0, 0) found.once (found.in_range r.0 r.1).0 below_k r.2.left;
        right = r.2.right;
        costs = within_from (r.2.costs ∙ ap (product w) same) lower;
      };
}

pub covers_forward :
    {levelled weighted : Bool} {product : ℕ → ℕ → ℕ} (laws : ProductLaws levelled weighted product) (grammar : List (Rule ℕ)) (costs : List (Option ℕ)) → AreInRange (length costs) grammar →
    AreInsides product grammar costs → (moves : List (TransducerRule ℕ)) (order : List (ℕ × ℕ × ℕ)) (rules : List (Rule ℕ)) → IsKeyGrammar (IsForwardEdge product grammar moves) order rules →
    CoversForward product grammar moves order rules
covers_forward {product = product} laws grammar costs range insides moves order rules found = record {
  long = found.long;
  start = found.start;
  in_range = found.in_range;
  sound = edge_of (IsForwardEdge product grammar moves) order rules found (λ key o e h. h.left);
  complete = λ k n root ss c d below_k below_n state is_root admitted is_match is_deleted_cost within.
      let w : ℕ = (transducer_rule moves n).cost in
      let outs : List (Option ℕ × ℕ) = deleted (variables_in (transducer_rule moves n).right) (variables_of (transducer_rule moves n).left) ss in
      let fits = three_within laws w c d most within in
      let least = least_at (match_costs product grammar (only (transducer_rule moves n).left) ((key_at order k).0 ∷ []) ss)
      (match_is_least laws grammar (only (transducer_rule moves n).left) ((key_at order k).0 ∷ []) ss) c is_match fits.1
      in
      let deleted_cost = least_at (deleted_least laws grammar costs range insides outs) (deleted_is laws grammar costs range insides outs) d is_deleted_cost fits.2 in
      let lower : product (product w least.0) deleted_cost.0 ≤ product (product w c) d = grows_both laws (product w least.0) deleted_cost.0 (product w c) d (laws.grows w least.0 c least.2) deleted_cost.2 in
      let r = rule_of (IsForwardEdge product grammar moves) order rules found k (n, ss)
      (record {
        left = key_at order k;
        right = side_map (forward_key (restricted_labels moves) (transducer_rule moves n).left ss) (transducer_rule moves n).right;
        cost = product (product w least.0) deleted_cost.0;
      })
      below_k
      (record {
        below = below_n;
        state = state;
        root = root;
        is_root = is_root;
        admitted = admitted;
        matched = least.0;
        is_match = least.1;
        deleted_cost = deleted_cost.0;
        is_deleted_cost = deleted_cost.1;
        left = refl;
        right = refl;
        costs = refl;
        within = within_at lower within;
      })
      in
      let same : r.2.matched ≡ least.0 = some_is (IsLeast-unique r.2.is_match least.1) in
      let outs_same : r.2.deleted_cost ≡ deleted_cost.0 = some_is (IsLeast-unique r.2.is_deleted_cost deleted_cost.1) in
      record {
        position = r.0;
        below = r.1;
        left = distinct_at order (rule_at rules r.0).left k (0, 0, 0) found.once (found.in_range r.0 r.1).0 below_k r.2.left;
        right = r.2.right;
        costs = within_from (r.2.costs ∙ ap (λ x. product (product w x) r.2.deleted_cost) same ∙ ap (product (product w least.0)) outs_same) lower;
      };
}
