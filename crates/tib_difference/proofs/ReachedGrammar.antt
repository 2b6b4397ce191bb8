-- The reached set as rules over the positions of its order.
use Rattle.std.specs.Prelude.{◌≡◌, ℕ, ◌≤◌, List, [], ◌∷◌, length, map}
use Rattle.std.proofs.Common.{arith, subst}
use Rattle.tib_lex.specs.Lists.{total}
use Rattle.tib_lex.proofs.Lists.{length_map}
use Rattle.tib_grammar.specs.GrammarOf.{GrammarOf, named_rule}
use Rattle.tib_grammar.specs.declared.Rule.{Rule}
use Rattle.tib_grammar.specs.Positions.{positions_of}
use Rattle.tib_grammar.proofs.Positions.{rules_in_range}
use Rattle.tib_expand.specs.Keys.{key_parts}
use Rattle.tib_expand.specs.Reached.{IsReachedSet, IsBeyond, parts_of}
use Rattle.tib_expand.specs.Reading.{AreBelow}
use Rattle.tib_difference.specs.Difference.{KeyOf, key_at, key_entries, difference, edge_parts}
use Rattle.tib_difference.specs.Series.{IsReachedGrammar}

-- the same grammars under other names

module _ (near far left right : GrammarOf) (same_left : near ≡ left) (same_right : far ≡ right) where
  -- the reached set of the grammars that were asked for
  pub reached_grammar :
      (order : List KeyOf) (rules : List (Rule ℕ)) → IsReachedSet (difference near.rules far.rules) order (map (named_rule (key_at order)) rules) → AreBelow positions_of (length order) rules →
      IsReachedGrammar left.rules right.rules order rules
  reached_grammar order rules h below =
      subst (λ (x : GrammarOf). IsReachedGrammar left.rules x.rules order rules) same_right
      (subst (λ (x : GrammarOf). IsReachedGrammar x.rules far.rules order rules) same_left (record { reached = h; in_range = rules_in_range (length order) rules below }))

  -- the same for what is too large
  pub beyond_of : (limit : ℕ) → IsBeyond (difference near.rules far.rules) limit → IsBeyond (difference left.rules right.rules) limit
  beyond_of limit h =
      subst (λ (x : GrammarOf). IsBeyond (difference left.rules x.rules) limit) same_right (subst (λ (x : GrammarOf). IsBeyond (difference x.rules far.rules) limit) same_left h)

-- parts

keys_least : (order : List KeyOf) → length order ≤ total (key_parts (λ k. key_entries k)) order
keys_least [] = omega arith
keys_least (k ∷ order) = omega (arith, keys_least order)

edges_least : (es : List (Rule KeyOf)) → length es ≤ total edge_parts es
edges_least [] = omega arith
edges_least (e ∷ es) = omega (arith, edges_least es)

module _ (one two : List (Rule ℕ)) (order : List KeyOf) (rules : List (Rule ℕ)) (parts limit : ℕ)
    (counted : parts ≡ parts_of (difference one two) order (map (named_rule (key_at order)) rules)) (within : parts ≤ limit) where
  -- there are no more keys than the limit
  pub few_keys : length order ≤ limit
  few_keys = omega (arith, keys_least order, counted, within)

  -- there are no more rules than the limit
  pub few_rules : length rules ≤ limit
  few_rules = omega (arith, edges_least (map (named_rule (key_at order)) rules), length_map (named_rule (key_at order)) rules, counted, within)
