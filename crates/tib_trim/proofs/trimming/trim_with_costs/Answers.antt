use Rattle.std.proofs.Common.{List, ℕ, sym, subst}
use Rattle.tib_grammar.specs.Range.{SidesEndInHoles}
use Rattle.tib_grammar.specs.Series.{HaveSameSeries}
use Rattle.tib_grammar.specs.declared.Rule.{Rule}
use Rattle.tib_trim.proofs.Assembled.{kept_leaves, trimmed_with, kept_series, kept_runs, both_series}
use Rattle.tib_trim.proofs.trimming.trim_with_costs.Goals as goal

pub grammar_of-requires-clause-leaves : goal.grammar_of-requires-clause-leaves
grammar_of-requires-clause-leaves g c =
    kept_leaves g.S.Semiring.product c.into_parts-names.result.1.items c.in_ok-rules.field-0.rules.items c.in_ok-rules.field-0.costs.items c.in_ok-rules.ensures.kept
    (subst SidesEndInHoles (sym c.into_parts-names.ensures.rules) c.is_sound.ensures.leaves)

pub returns-clause-trimmed : goal.returns-clause-trimmed
returns-clause-trimmed g c =
    trimmed_with g.S.Semiring.product c.args.grammar c.in_ok-trimmed.trimmed c.into_parts-names.result.0 c.into_parts-names.result.1.items c.in_ok-rules.field-0.rules.items c.in_ok-rules.field-0.costs.items c.into_parts-names.ensures.names
    c.into_parts-names.ensures.rules c.in_ok-rules.ensures.kept c.in_ok-trimmed.ensures

pub returns-clause-series : goal.returns-clause-series
returns-clause-series g c =
    both_series g.S.Semiring.product c.args.grammar.rules c.in_ok-rules.field-0.rules.items c.in_ok-trimmed.trimmed.rules
    (subst (λ (rs : List (Rule ℕ)). HaveSameSeries g.S.Semiring.product rs c.in_ok-rules.field-0.rules.items) c.into_parts-names.ensures.rules c.in_ok-rules.ensures.series)
    (kept_series g.S.Semiring.product c.into_parts-names.result.0 c.in_ok-rules.field-0.rules.items c.in_ok-trimmed.trimmed c.in_ok-trimmed.ensures)

pub returns-clause-runs : goal.returns-clause-runs
returns-clause-runs g c =
    kept_runs g.S.Semiring.product c.into_parts-names.result.0 c.in_ok-rules.field-0.rules.items c.in_ok-trimmed.trimmed c.in_ok-trimmed.ensures c.in_ok-rules.ensures.runs
