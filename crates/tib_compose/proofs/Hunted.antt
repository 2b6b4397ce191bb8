-- What the reached set of the composition says of its rules and parts.
use Rattle.std.specs.Prelude.{◌≡◌, ℕ, ◌<◌, ◌≤◌, List, [], ◌∷◌, ◌++◌, length, map, refl}
use Rattle.std.proofs.Common.{arith, subst, sym, ap, ◌∙◌}
use Rattle.std.proofs.lemmas.List.{length-map}
use Rattle.tib_lex.specs.Lists.{Each}
use Rattle.tib_lex.proofs.Members.{each_has, has_at}
use Rattle.tib_lex.proofs.Lists.{each_left, each_right}
use Rattle.tib_tree.specs.Trees.{Trees, none, tree, only}
use Rattle.tib_grammar.specs.Sides.{Symbol, label, hole, holes}
use Rattle.tib_grammar.specs.Range.{AllBelow}
use Rattle.tib_expand.specs.Reached.{IsReachedSet, IsBeyond, parts_of}
use Rattle.tib_expand.specs.Reading.{AreBelow}
use Rattle.tib_expand.specs.Keys.{key_parts}
use Rattle.tib_key_edges.specs.Ends.{key_at}
use Rattle.tib_key_edges.proofs.Limits.{each_counts}
use Rattle.tib_transducer.specs.Rules.{transducer_rule, no_rule, states_in}
use Rattle.tib_transducer.specs.Range.{AreShaped, AreWithin}
use Rattle.tib_transducer.specs.TransducerOf.{TransducerOf}
use Rattle.tib_transducer.specs.declared.Pair.{Pair}
use Rattle.tib_transducer.specs.declared.TransducerRule.{TransducerRule}
use Rattle.tib_key_edges.specs.Composition.{composition, edge_parts}
use Rattle.tib_key_edges.specs.Named.{named_transducer_rule}
use Rattle.tib_key_edges.proofs.Exact.{reached_is_composite}
use Rattle.tib_key_edges.proofs.Standing.{composite_is_shaped}
use Rattle.tib_compose.specs.EdgeLaws.{places_of, all_states}

below_append : (n : ℕ) (xs ys : List ℕ) → AllBelow n xs → AllBelow n ys → AllBelow n (xs ++ ys)
below_append n [] ys a b = b
below_append n (x ∷ xs) ys a b = (a.0, below_append n xs ys a.1 b)

map_both : {A B : Type 0} (g : A → B) (xs ys : List A) → map g (xs ++ ys) ≡ map g xs ++ map g ys
map_both g [] ys = refl
map_both g (x ∷ xs) ys = ap (λ zs. g x ∷ zs) (map_both g xs ys)

-- states below a number are so at the holes
holes_below : (n : ℕ) (ts : Trees (Symbol ℕ (Pair ℕ))) → Each (λ q. q < n) (all_states ts) → AllBelow n (map (λ x. x.state) (holes ts))
holes_below n none h = tt
holes_below n (tree (label f) kids rest) h =
    subst (AllBelow n) (sym (map_both (λ (x : Pair ℕ). x.state) (holes kids) (holes rest)))
    (below_append n (map (λ x. x.state) (holes kids)) (map (λ x. x.state) (holes rest))
    (holes_below n kids (each_left (λ q. q < n) (all_states kids) (all_states rest) h)) (holes_below n rest (each_right (λ q. q < n) (all_states kids) (all_states rest) h)))
holes_below n (tree (hole x) kids rest) h = (h.0, holes_below n rest (each_right (λ q. q < n) (all_states kids) (all_states rest) h.1))

-- rules whose positions are below a number are within it
pub rules_within : (n : ℕ) (rules : List (TransducerRule ℕ)) → AreBelow places_of n rules → AreWithin n rules
rules_within n rules below m h =
    let here : Each (λ q. q < n) (places_of (transducer_rule rules m)) = each_has (λ rule. Each (λ q. q < n) (places_of rule)) rules (transducer_rule rules m) below (has_at rules m no_rule h) in
    (here.0, holes_below n (only (transducer_rule rules m).right) here.1)

module _ (product : ℕ → ℕ → ℕ) (one two : List (TransducerRule ℕ)) (order : List (ℕ × ℕ)) (rules : List (TransducerRule ℕ)) (parts limit : ℕ)
    (counted : parts ≡ parts_of (composition product one two) order (map (named_transducer_rule (key_at order)) rules)) (within : parts ≤ limit) where
  -- there are no more pairs than the limit
  pub few_keys : length order ≤ limit
  few_keys = omega (arith, each_counts (key_parts (λ k. 2)) (λ k. omega arith) order, counted, within)

  -- there are no more rules than the limit
  pub few_rules : length rules ≤ limit
  few_rules = omega (arith, each_counts edge_parts (λ e. omega arith) (map (named_transducer_rule (key_at order)) rules), length-map rules (named_transducer_rule (key_at order)), counted, within)

-- the same transducers under other names
module _ (product : ℕ → ℕ → ℕ) (near far one two : TransducerOf) (same : near ≡ one) (other : far ≡ two) where
  pub reached_of : (order : List (ℕ × ℕ)) (es : List (TransducerRule (ℕ × ℕ))) → IsReachedSet (composition product near.rules far.rules) order es → IsReachedSet (composition product one.rules two.rules) order es
  reached_of order es h =
      subst (λ (x : TransducerOf). IsReachedSet (composition product one.rules x.rules) order es) other (subst (λ (x : TransducerOf). IsReachedSet (composition product x.rules far.rules) order es) same h)

  pub beyond_of : (limit : ℕ) → IsBeyond (composition product near.rules far.rules) limit → IsBeyond (composition product one.rules two.rules) limit
  beyond_of limit h =
      subst (λ (x : TransducerOf). IsBeyond (composition product one.rules x.rules) limit) other (subst (λ (x : TransducerOf). IsBeyond (composition product x.rules far.rules) limit) same h)

  pub parts_are :
      (order : List (ℕ × ℕ)) (es : List (TransducerRule (ℕ × ℕ))) (parts : ℕ) → parts ≡ parts_of (composition product near.rules far.rules) order es → parts ≡ parts_of (composition product one.rules two.rules) order es
  parts_are order es parts h = h

-- the rules have their shape
pub rules_shaped :
    (product : ℕ → ℕ → ℕ) (one two : List (TransducerRule ℕ)) (order : List (ℕ × ℕ)) (rules : List (TransducerRule ℕ)) → AreShaped one →
    IsReachedSet (composition product one two) order (map (named_transducer_rule (key_at order)) rules) → AreWithin (length order) rules → AreShaped rules
rules_shaped product one two order rules shaped h within = composite_is_shaped product one two order rules shaped (reached_is_composite product one two order rules h within)
