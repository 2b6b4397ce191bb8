-- What the reached set says of its keys, rules and parts.
use Rattle.std.specs.Prelude.{◌≡◌, ℕ, ◌≤◌, List, length, map}
use Rattle.std.proofs.Common.{arith, subst}
use Rattle.std.proofs.lemmas.List.{length-map}
use Rattle.tib_tree.specs.Trees.{Tree}
use Rattle.tib_grammar.specs.GrammarOf.{named_rule}
use Rattle.tib_grammar.specs.declared.Rule.{Rule}
use Rattle.tib_expand.specs.Reached.{IsReachedSet, IsBeyond, parts_of}
use Rattle.tib_expand.specs.Keys.{key_parts}
use Rattle.tib_key_edges.specs.Ends.{key_at}
use Rattle.tib_key_edges.proofs.Limits.{each_counts}
use Rattle.tib_transducer.specs.TransducerOf.{TransducerOf}
use Rattle.tib_image.specs.Image.{key_entries, edge_parts, image_of}

module _ (moves : TransducerOf) (t : Tree ℕ) where
  module _ (order : List (ℕ × ℕ)) (rules : List (Rule ℕ)) (parts limit : ℕ) (counted : parts ≡ parts_of (image_of moves.rules t) order (map (named_rule (key_at order)) rules)) (within : parts ≤ limit) where
    -- there are no more keys than the limit
    pub few_keys : length order ≤ limit
    few_keys = omega (arith, each_counts (key_parts key_entries) (λ k. omega arith) order, counted, within)

    -- there are no more rules than the limit
    pub few_rules : length rules ≤ limit
    few_rules = omega (arith, each_counts edge_parts (λ e. omega arith) (map (named_rule (key_at order)) rules), length-map rules (named_rule (key_at order)), counted, within)

  -- the same transducer and tree under other names
  module _ (near : TransducerOf) (same : near ≡ moves) (other : Tree ℕ) (is : other ≡ t) where
    pub reached_of : (order : List (ℕ × ℕ)) (es : List (Rule (ℕ × ℕ))) → IsReachedSet (image_of near.rules other) order es → IsReachedSet (image_of moves.rules t) order es
    reached_of order es h = subst (λ u. IsReachedSet (image_of moves.rules u) order es) is (subst (λ (x : TransducerOf). IsReachedSet (image_of x.rules other) order es) same h)

    pub parts_are : (n : ℕ) (order : List (ℕ × ℕ)) (es : List (Rule (ℕ × ℕ))) → n ≡ parts_of (image_of near.rules other) order es → n ≡ parts_of (image_of moves.rules t) order es
    parts_are n order es h = h

    pub beyond_of : (limit : ℕ) → IsBeyond (image_of near.rules other) limit → IsBeyond (image_of moves.rules t) limit
    beyond_of limit h = subst (λ u. IsBeyond (image_of moves.rules u) limit) is (subst (λ (x : TransducerOf). IsBeyond (image_of x.rules other) limit) same h)
