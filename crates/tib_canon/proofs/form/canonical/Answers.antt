use Rattle.std.proofs.Common.{ℕ, List, sym, subst}
use Rattle.tib_grammar.specs.declared.Rule.{Rule}
use Rattle.tib_canon.specs.Canonical.{OverStates}
use Rattle.tib_canon.proofs.One.{if_ok}
use Rattle.tib_grammar.specs.Series.{HasSameSeries}
use Rattle.tib_canon.proofs.form.canonical.Goals as goal

pub returns-clause-series : goal.returns-clause-series
returns-clause-series g c =
    if_ok (λ h. OverStates c.states-states.result c.into_parts-names.result.1.items (λ k. HasSameSeries g.S.Semiring.product k h.grammar)) (λ h. HasSameSeries g.S.Semiring.product c.args.grammar h.grammar) c.canonical_of_rules.result
    (λ h o. subst (λ (rs : List (Rule ℕ)). HasSameSeries g.S.Semiring.product (record { names = c.args.grammar.names; rules = rs }) h.grammar) c.into_parts-names.ensures.rules (o c.args.grammar.names (sym c.states-states.ensures)))
    c.canonical_of_rules.ensures.series
