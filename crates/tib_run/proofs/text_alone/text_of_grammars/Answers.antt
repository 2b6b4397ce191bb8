use Rattle.std.proofs.Common.{refl}
use Rattle.tib_command.specs.declared.job.Operation.TheVariants as operations
use Rattle.tib_job.specs.Kinds.{of_two_grammars}
use Rattle.tib_job.specs.declared.job_values.Values.TheVariants as those
use Rattle.tib_job.proofs.Outcomes.{outcome_of, printed_outcome}
use Rattle.tib_job.proofs.ReadValues.{asks, another}
use Rattle.tib_run.proofs.text_alone.text_of_grammars.Goals as goal

pub returns-in-Intersect : goal.returns-in-Intersect
returns-in-Intersect g c =
    outcome_of c.in-Intersect.is refl
    (printed_outcome operations.Intersect refl (λ printed. printed.text) c.intersection_of.result _ c.grammar_text.ensures tt c.intersection_of.ensures.within c.intersection_of.ensures.text c.intersection_of.ensures.err)

pub returns-in-Union : goal.returns-in-Union
returns-in-Union g c =
    outcome_of c.in-Union.is refl
    (printed_outcome operations.Union refl (λ printed. printed.text) c.union_of.result _ c.grammar_text-in-Union.ensures tt c.union_of.ensures.within c.union_of.ensures.text c.union_of.ensures.err)

pub unreachable-requires : goal.unreachable-requires
unreachable-requires g c =
    another of_two_grammars c.args.job.now.operation (asks {S = g.row.S.Denot} c.args.job.now.operation (those.Grammars c.args.first c.args.second) c.requires.held)
    (c.in_default.not-Intersect, (c.in_default.not-Union, tt))
