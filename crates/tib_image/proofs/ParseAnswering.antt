-- What the reached set of parsing says of its keys, rules and parts.
use Rattle.std.specs.Prelude.{◌≡◌, ℕ, ◌≤◌, List, length, map}
use Rattle.std.proofs.Common.{arith, subst}
use Rattle.std.proofs.lemmas.List.{length-map}
use Rattle.tib_grammar.specs.GrammarOf.{named_rule}
use Rattle.tib_grammar.specs.declared.Rule.{Rule}
use Rattle.tib_expand.specs.Reached.{IsReachedSet, IsBeyond, parts_of}
use Rattle.tib_expand.specs.Limits.{IfTooMany}
use Rattle.tib_expand.specs.declared.error.HuntError.TheVariants.{TooMany as OfParts, OutOfMemory as OfHuntMemory}
use Rattle.tib_expand.specs.declared.error.HuntError.{HuntError}
use Rattle.tib_expand.specs.Keys.{key_parts}
use Rattle.tib_key_edges.proofs.Limits.{each_counts}
use Rattle.tib_transducer.specs.declared.error.ClassError.{ClassError}
use Rattle.tib_transducer.specs.declared.error.ClassError.TheVariants.{Class as OfRule, OutOfMemory as OfMemory}
use Rattle.tib_strings.specs.Range.{AreLinear, AreNondeleting}
use Rattle.tib_strings.specs.StringTransducerOf.{StringTransducerOf}
use Rattle.tib_strings.specs.declared.StringRule.{StringRule}
use Rattle.tib_apply.specs.Faults.{class_error, hunt_error}
use Rattle.tib_image.specs.Parsing.{key_at}
use Rattle.tib_image.specs.ParseOperation.{key_entries, edge_parts, parse}
use Rattle.tib_image.specs.ParseAnswered.{IsStringFault, IsParseFault}

module _ (moves : StringTransducerOf) (string : List ℕ) where
  module _ (order : List (ℕ × ℕ × ℕ × ℕ)) (rules : List (Rule ℕ)) (parts limit : ℕ)
      (counted : parts ≡ parts_of (parse moves.rules string) order (map (named_rule (key_at (length string) order)) rules)) (within : parts ≤ limit) where
    -- there are no more keys than the limit
    pub few_keys : length order ≤ limit
    few_keys = omega (arith, each_counts (key_parts key_entries) (λ k. omega arith) order, counted, within)

    -- there are no more rules than the limit
    pub few_rules : length rules ≤ limit
    few_rules = omega (arith, each_counts edge_parts (λ e. omega arith) (map (named_rule (key_at (length string) order)) rules), length-map rules (named_rule (key_at (length string) order)), counted, within)

  -- the same transducer and string under other names
  module _ (near : StringTransducerOf) (same : near ≡ moves) (other : List ℕ) (is : other ≡ string) where
    pub reached_of :
        (order : List (ℕ × ℕ × ℕ × ℕ)) (rules : List (Rule ℕ)) → IsReachedSet (parse near.rules other) order (map (named_rule (key_at (length other) order)) rules) →
        IsReachedSet (parse moves.rules string) order (map (named_rule (key_at (length string) order)) rules)
    reached_of order rules h =
        subst (λ w. IsReachedSet (parse moves.rules w) order (map (named_rule (key_at (length w) order)) rules)) is
        (subst (λ (x : StringTransducerOf). IsReachedSet (parse x.rules other) order (map (named_rule (key_at (length other) order)) rules)) same h)

    pub parts_are :
        (n : ℕ) (order : List (ℕ × ℕ × ℕ × ℕ)) (rules : List (Rule ℕ)) → n ≡ parts_of (parse near.rules other) order (map (named_rule (key_at (length other) order)) rules) →
        n ≡ parts_of (parse moves.rules string) order (map (named_rule (key_at (length string) order)) rules)
    parts_are n order rules h =
        subst (λ w. n ≡ parts_of (parse moves.rules w) order (map (named_rule (key_at (length w) order)) rules)) is
        (subst (λ (x : StringTransducerOf). n ≡ parts_of (parse x.rules other) order (map (named_rule (key_at (length other) order)) rules)) same h)

    pub beyond_of : (limit : ℕ) → IsBeyond (parse near.rules other) limit → IsBeyond (parse moves.rules string) limit
    beyond_of limit h = subst (λ w. IsBeyond (parse moves.rules w) limit) is (subst (λ (x : StringTransducerOf). IsBeyond (parse x.rules other) limit) same h)

-- the first rule that is not linear or not nondeleting is named
pub class_fault : (moves : List (StringRule ℕ)) (string : List ℕ) (limit : ℕ) (e : ClassError) → IsStringFault moves e → IsParseFault moves string limit (class_error e)
class_fault moves string limit (OfRule rule fault) h = h
class_fault moves string limit OfMemory h = h

-- that there are too many parts is reported, with what follows from what a hunt promises of it
pub hunt_fault :
    (moves : List (StringRule ℕ)) (string : List ℕ) (limit : ℕ) (Found : Type 0) → AreLinear moves → AreNondeleting moves → (Found → IsBeyond (parse moves string) limit) → (e : HuntError) →
    IfTooMany limit Found e → IsParseFault moves string limit (hunt_error e)
hunt_fault moves string limit Found linear nondeleting so (OfParts n) h = (h.0, linear, nondeleting, so h.1)
hunt_fault moves string limit Found linear nondeleting so OfHuntMemory h = h
