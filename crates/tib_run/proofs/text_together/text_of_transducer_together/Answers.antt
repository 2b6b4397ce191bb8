use Rattle.std.proofs.Common.{refl}
use Rattle.tib_command.specs.declared.job.Operation.TheVariants as operations
use Rattle.tib_job.proofs.Outcomes.{outcome_of, class_outcome, printed_outcome}
use Rattle.tib_run.proofs.text_together.text_of_transducer_together.Goals as goal

pub returns-in-Ok : goal.returns-in-Ok
returns-in-Ok g c =
    outcome_of c.in-Domain.is refl
    (printed_outcome operations.Domain refl (λ printed. printed.text) c.domain_of_together.result _ c.grammar_text.ensures c.in-Ok.ensures.met c.domain_of_together.ensures.within c.domain_of_together.ensures.text c.domain_of_together.ensures.err)

pub returns-in-Err : goal.returns-in-Err
returns-in-Err g c = outcome_of c.in-Domain.is refl (class_outcome operations.Domain refl c.in-Err.status c.in-Err.ensures.broken)
