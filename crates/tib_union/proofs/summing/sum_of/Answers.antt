use Rattle.std.proofs.Common.{◌≡◌, ℕ, length, sym, subst}
use Rattle.tib_canon.proofs.One.{if_both, if_ok}
use Rattle.tib_canon.specs.Canonical.{names_of}
use Rattle.tib_grammar.specs.Range.{AreInRange}
use Rattle.tib_union.specs.Sum.{sum_grammar, HasLesserSeries}
use Rattle.tib_union.proofs.Steps.{all_range, is_sum, has_series}
use Rattle.tib_union.proofs.summing.sum_of.Goals as goal

pub rules_of_sum-requires-clause-range_one : goal.rules_of_sum-requires-clause-range_one
rules_of_sum-requires-clause-range_one g c =
    subst (λ (n : ℕ). AreInRange n c.into_parts-front.result.1.items) (sym c.states-first.ensures) (subst (AreInRange (length c.args.one.names)) (sym c.into_parts-front.ensures.rules) c.is_sound.ensures.range)

pub rules_of_sum-requires-clause-range_two : goal.rules_of_sum-requires-clause-range_two
rules_of_sum-requires-clause-range_two g c =
    subst (λ (n : ℕ). AreInRange n c.into_parts-back.result.1.items) (sym c.states-second.ensures) (subst (AreInRange (length c.args.two.names)) (sym c.into_parts-back.ensures.rules) c.is_sound-2.ensures.range)

pub grammar_over-requires-clause-range : goal.grammar_over-requires-clause-range
grammar_over-requires-clause-range g c =
    all_range c.args.one c.args.two c.states-first.result c.states-second.result c.in_ok-states.states c.into_parts-front.result.1.items c.into_parts-back.result.1.items c.in_ok-rules.rules.items c.states-first.ensures c.states-second.ensures
    c.in_ok-states.ensures c.into_parts-front.ensures.rules c.into_parts-back.ensures.rules c.in_ok-rules.ensures c.is_sound.ensures.start c.is_sound-2.ensures.start c.is_sound.ensures.range c.is_sound-2.ensures.range

pub returns-clause-sum : goal.returns-clause-sum
returns-clause-sum g c =
    if_both (λ h. h.names ≡ names_of c.in_ok-states.states) (λ h. h.rules ≡ c.in_ok-rules.rules.items) (λ h. h ≡ sum_grammar c.args.one c.args.two) c.grammar_over.result
    (is_sum c.args.one c.args.two c.states-first.result c.states-second.result c.in_ok-states.states c.into_parts-front.result.1.items c.into_parts-back.result.1.items c.in_ok-rules.rules.items c.states-first.ensures c.states-second.ensures
    c.in_ok-states.ensures c.into_parts-front.ensures.rules c.into_parts-back.ensures.rules c.in_ok-rules.ensures) c.grammar_over.ensures.names c.grammar_over.ensures.rules

pub returns-clause-series : goal.returns-clause-series
returns-clause-series g c =
    if_ok (λ h. h.rules ≡ c.in_ok-rules.rules.items) (λ h. HasLesserSeries g.S.Semiring.product c.args.one.rules c.args.two.rules h.rules) c.grammar_over.result
    (has_series c.args.one c.args.two c.states-first.result c.states-second.result c.in_ok-states.states c.into_parts-front.result.1.items c.into_parts-back.result.1.items c.in_ok-rules.rules.items c.states-first.ensures c.states-second.ensures
    c.in_ok-states.ensures c.into_parts-front.ensures.rules c.into_parts-back.ensures.rules c.in_ok-rules.ensures g.met.S.Semiring.laws c.is_sound.ensures.start c.is_sound-2.ensures.start c.is_sound.ensures.range c.is_sound-2.ensures.range)
    c.grammar_over.ensures.rules
