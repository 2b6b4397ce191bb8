-- What the reached set of an operation over keys says of its rules and parts.
use Rattle.std.specs.Prelude.{◌≡◌, ℕ, ◌<◌, ◌≤◌, List, [], ◌∷◌, length, map}
use Rattle.std.proofs.Common.{arith, subst}
use Rattle.std.proofs.lemmas.List.{length-map}
use Rattle.tib_lex.specs.Lists.{Each}
use Rattle.tib_lex.proofs.Members.{each_has, has_at}
use Rattle.tib_tree.specs.Trees.{only}
use Rattle.tib_grammar.specs.Sides.{holes_of}
use Rattle.tib_grammar.specs.Run.{rule_at, no_rule}
use Rattle.tib_grammar.specs.Range.{AllBelow, AreInRange}
use Rattle.tib_grammar.specs.GrammarOf.{GrammarOf, named_rule}
use Rattle.tib_grammar.specs.declared.Rule.{Rule}
use Rattle.tib_expand.specs.Reached.{IsReachedSet, IsBeyond, parts_of}
use Rattle.tib_expand.specs.Reading.{AreBelow}
use Rattle.tib_expand.specs.Keys.{key_parts}
use Rattle.tib_key_edges.proofs.Limits.{each_counts}
use Rattle.tib_transducer.specs.TransducerOf.{TransducerOf}
use Rattle.tib_apply.specs.KeyGrammars.{key_at}
use Rattle.tib_apply.specs.Operations.{key_entries, edge_parts, key_operation, inverse_image}
use Rattle.tib_apply.specs.KeyRules.{positions_of}
use Rattle.tib_apply.proofs.MappedSides.{each_hole}

all_below : (n : ℕ) (qs : List ℕ) → Each (λ q. q < n) qs → AllBelow n qs
all_below n [] h = tt
all_below n (q ∷ qs) h = (h.0, all_below n qs h.1)

-- rules whose positions are below a number are over positions below it
pub rules_in_range : (n : ℕ) (rules : List (Rule ℕ)) → AreBelow positions_of n rules → AreInRange n rules
rules_in_range n rules below m h =
    let here : Each (λ q. q < n) (positions_of (rule_at rules m)) = each_has (λ rule. Each (λ q. q < n) (positions_of rule)) rules (rule_at rules m) below (has_at rules m no_rule h) in
    (here.0, all_below n (holes_of (rule_at rules m).right) (each_hole (λ q. q < n) (only (rule_at rules m).right) here.1))

module _ {O : Type 0} (Edge : ℕ × ℕ × ℕ → O → Rule (ℕ × ℕ × ℕ) → Type 0) (order : List (ℕ × ℕ × ℕ)) (rules : List (Rule ℕ)) (parts limit : ℕ)
    (counted : parts ≡ parts_of (key_operation Edge) order (map (named_rule (key_at order)) rules)) (within : parts ≤ limit) where
  -- there are no more keys than the limit
  pub few_keys : length order ≤ limit
  few_keys = omega (arith, each_counts (key_parts key_entries) (λ k. omega arith) order, counted, within)

  -- there are no more rules than the limit
  pub few_rules : length rules ≤ limit
  few_rules = omega (arith, each_counts edge_parts (λ e. omega arith) (map (named_rule (key_at order)) rules), length-map rules (named_rule (key_at order)), counted, within)

-- the same transducer and grammar under other names
module _ (product : ℕ → ℕ → ℕ) (near : TransducerOf) (far : GrammarOf) (moves : TransducerOf) (grammar : GrammarOf) (same : near ≡ moves) (other : far ≡ grammar) where
  pub reached_of : (order : List (ℕ × ℕ × ℕ)) (es : List (Rule (ℕ × ℕ × ℕ))) → IsReachedSet (inverse_image product near.rules far.rules) order es → IsReachedSet (inverse_image product moves.rules grammar.rules) order es
  reached_of order es h =
      subst (λ (x : GrammarOf). IsReachedSet (inverse_image product moves.rules x.rules) order es) other (subst (λ (x : TransducerOf). IsReachedSet (inverse_image product x.rules far.rules) order es) same h)

  pub beyond_of : (limit : ℕ) → IsBeyond (inverse_image product near.rules far.rules) limit → IsBeyond (inverse_image product moves.rules grammar.rules) limit
  beyond_of limit h =
      subst (λ (x : GrammarOf). IsBeyond (inverse_image product moves.rules x.rules) limit) other (subst (λ (x : TransducerOf). IsBeyond (inverse_image product x.rules far.rules) limit) same h)
