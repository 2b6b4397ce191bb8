use Rattle.std.proofs.Common.{refl}
use Rattle.tib_command.specs.declared.job.Operation.TheVariants as operations
use Rattle.tib_job.specs.Kinds.{of_one_grammar}
use Rattle.tib_job.specs.declared.job_values.Values.TheVariants as those
use Rattle.tib_job.proofs.Outcomes.{outcome_of, printed_outcome, plain_outcome, kbest_outcome}
use Rattle.tib_job.proofs.ReadValues.{asks, another}
use Rattle.tib_run.proofs.text_alone.text_of_grammar.Goals as goal

pub returns-in-Inside : goal.returns-in-Inside
returns-in-Inside g c =
    outcome_of c.in-Inside.is refl
    (plain_outcome operations.Inside refl c.inside_costs.result tt tt c.inside_costs.ensures.text c.inside_costs.ensures.err)

pub returns-in-Normal : goal.returns-in-Normal
returns-in-Normal g c =
    outcome_of c.in-Normal.is refl
    (printed_outcome operations.Normal refl (λ printed. printed.text) c.canonical_normal.result _ c.grammar_text.ensures tt c.canonical_normal.ensures.within c.canonical_normal.ensures.text c.canonical_normal.ensures.err)

pub returns-in-KBest : goal.returns-in-KBest
returns-in-KBest g c =
    outcome_of c.in-KBest.is refl
    (kbest_outcome _ c.kbest_text.result refl c.kbest_text.ensures.within c.kbest_text.ensures.text c.kbest_text.ensures.err)

pub returns-in-Determinize : goal.returns-in-Determinize
returns-in-Determinize g c =
    outcome_of c.in-Determinize.is refl
    (printed_outcome operations.Determinize refl (λ printed. printed.text) c.determinization_of.result _ c.grammar_text-in-Determinize.ensures tt c.determinization_of.ensures.within c.determinization_of.ensures.text c.determinization_of.ensures.err)

pub returns-in-Prune : goal.returns-in-Prune
returns-in-Prune g c =
    outcome_of c.in-Prune.is refl
    (printed_outcome operations.Prune refl (λ printed. printed.text) c.canonical_pruned.result _ c.grammar_text-in-Prune.ensures tt c.canonical_pruned.ensures.within c.canonical_pruned.ensures.text c.canonical_pruned.ensures.err)

pub returns-in-Trim : goal.returns-in-Trim
returns-in-Trim g c =
    outcome_of c.in-Trim.is refl
    (plain_outcome operations.Trim refl c.trimmed_text.result tt tt c.trimmed_text.ensures.text c.trimmed_text.ensures.err)

pub returns-in-Through : goal.returns-in-Through
returns-in-Through g c =
    outcome_of c.in-Through.is refl
    (plain_outcome operations.Through refl c.through_text.result tt tt c.through_text.ensures.text c.through_text.ensures.err)

pub returns-in-Runs : goal.returns-in-Runs
returns-in-Runs g c =
    outcome_of c.in-Runs.is refl
    (plain_outcome operations.Runs refl c.derivations_text.result tt tt c.derivations_text.ensures.text c.derivations_text.ensures.err)

pub unreachable-requires : goal.unreachable-requires
unreachable-requires g c =
    another of_one_grammar c.args.job.now.operation (asks {S = g.row.S.Denot} c.args.job.now.operation (those.Grammar c.args.grammar) c.requires.held)
    (c.in_default.not-Inside, (c.in_default.not-Normal, (c.in_default.not-KBest, (c.in_default.not-Determinize, (c.in_default.not-Prune, (c.in_default.not-Trim, (c.in_default.not-Through, (c.in_default.not-Runs, tt))))))))
