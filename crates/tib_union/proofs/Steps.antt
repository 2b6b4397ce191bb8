-- What the steps of a sum give, put together.
use Rattle.std.specs.Prelude.{◌≡◌, ℕ, ◌+◌, ◌<◌, List, length, Bool}
use Rattle.std.proofs.Common.{arith, ap, sym, ◌∙◌, subst}
use Rattle.tib_cost.specs.Semiring.{ProductLaws}
use Rattle.tib_grammar.specs.GrammarOf.{GrammarOf}
use Rattle.tib_grammar.specs.Range.{AreInRange}
use Rattle.tib_grammar.specs.declared.Rule.{Rule}
use Rattle.tib_canon.specs.Canonical.{names_of}
use Rattle.tib_union.specs.Sum.{sum_rules, sum_grammar, HasLesserSeries}
use Rattle.tib_union.proofs.Summed.{sum_range, lesser_series}

module _
    (one two : GrammarOf) (first second states : ℕ) (front back all : List (Rule ℕ)) (at_first : first ≡ length one.names) (at_second : second ≡ length two.names)
    (counted : states ≡ 1 + first + second) (front_is : front ≡ one.rules) (back_is : back ≡ two.rules) (all_are : all ≡ sum_rules first front back) where
  all_rules : all ≡ sum_rules (length one.names) one.rules two.rules
  all_rules =
      all_are ∙ ap (λ (n : ℕ). sum_rules n front back) at_first ∙ ap (λ (xs : List (Rule ℕ)). sum_rules (length one.names) xs back) front_is
      ∙ ap (λ (ys : List (Rule ℕ)). sum_rules (length one.names) one.rules ys) back_is

  all_states : states ≡ 1 + length one.names + length two.names
  all_states = omega (arith, counted, at_first, at_second)

  pub all_range : 0 < length one.names → 0 < length two.names → AreInRange (length one.names) one.rules → AreInRange (length two.names) two.rules → AreInRange states all
  all_range some more low high =
      subst (λ (n : ℕ). AreInRange n all) (sym all_states)
      (subst (AreInRange (1 + length one.names + length two.names)) (sym all_rules) (sum_range (length one.names) (length two.names) one.rules two.rules some more low high))

  pub is_sum : (g : GrammarOf) → g.names ≡ names_of states → g.rules ≡ all → g ≡ sum_grammar one two
  is_sum g names rules =
      ap (λ (ns : List (List ℕ)). record { names = ns; rules = g.rules }) (names ∙ ap names_of all_states)
      ∙ ap (λ (rs : List (Rule ℕ)). record { names = names_of (1 + length one.names + length two.names); rules = rs }) (rules ∙ all_rules)

  pub has_series :
      {levelled weighted : Bool} {product : ℕ → ℕ → ℕ} → ProductLaws levelled weighted product → 0 < length one.names → 0 < length two.names → AreInRange (length one.names) one.rules →
      AreInRange (length two.names) two.rules → (g : GrammarOf) → g.rules ≡ all → HasLesserSeries product one.rules two.rules g.rules
  has_series {product = product} laws some more low high g rules =
      subst (HasLesserSeries product one.rules two.rules) (sym (rules ∙ all_rules)) (lesser_series laws (length one.names) (length two.names) one.rules two.rules some more low high)
