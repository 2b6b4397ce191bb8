use Rattle.std.proofs.Common.{refl}
use Rattle.tib_command.specs.declared.job.Operation.TheVariants as operations
use Rattle.tib_job.specs.Kinds.{of_one_transducer}
use Rattle.tib_job.specs.declared.job_values.Values.TheVariants as those
use Rattle.tib_job.proofs.Outcomes.{outcome_of, class_outcome, plain_outcome, printed_outcome}
use Rattle.tib_job.proofs.ReadValues.{asks, another}
use Rattle.tib_run.proofs.text_alone.text_of_transducer.Goals as goal

pub returns-in-Check : goal.returns-in-Check
returns-in-Check g c =
    outcome_of c.in-Check.is refl
    (plain_outcome operations.Check refl c.classes_of.result tt tt c.classes_of.ensures.text c.classes_of.ensures.err)

pub returns-in-Ok : goal.returns-in-Ok
returns-in-Ok g c =
    outcome_of c.in-Invert.is refl
    (plain_outcome operations.Invert refl c.inverse_text.result c.in-Ok.ensures.met tt c.inverse_text.ensures.text c.inverse_text.ensures.err)

pub returns-in-Err : goal.returns-in-Err
returns-in-Err g c = outcome_of c.in-Invert.is refl (class_outcome operations.Invert refl c.in-Err.status c.in-Err.ensures.broken)

pub returns-in-Ok-demand : goal.returns-in-Ok-demand
returns-in-Ok-demand g c =
    outcome_of c.in-Domain.is refl
    (printed_outcome operations.Domain refl (λ printed. printed.text) c.domain_of.result _ c.grammar_text.ensures c.in-Ok-demand.ensures.met c.domain_of.ensures.within c.domain_of.ensures.text c.domain_of.ensures.err)

pub returns-in-Err-demand : goal.returns-in-Err-demand
returns-in-Err-demand g c = outcome_of c.in-Domain.is refl (class_outcome operations.Domain refl c.in-Err-demand.status c.in-Err-demand.ensures.broken)

pub unreachable-requires : goal.unreachable-requires
unreachable-requires g c =
    another of_one_transducer c.args.job.now.operation (asks {S = g.row.S.Denot} c.args.job.now.operation (those.Transducer c.args.transducer) c.requires.held)
    (c.in_default.not-Check, (c.in_default.not-Invert, (c.in_default.not-Domain, tt)))
