use Rattle.std.proofs.Common.{refl}
use Rattle.tib_command.specs.declared.job.Operation.TheVariants as operations
use Rattle.tib_job.proofs.Outcomes.{outcome_of, printed_outcome}
use Rattle.tib_run.proofs.text_together.text_of_grammar_together.Goals as goal

pub returns-in-Determinize : goal.returns-in-Determinize
returns-in-Determinize g c =
    outcome_of c.in-Determinize.is refl
    (printed_outcome operations.Determinize refl (λ printed. printed.text) c.determinization_of_together.result _ c.grammar_text.ensures tt c.determinization_of_together.ensures.within c.determinization_of_together.ensures.text c.determinization_of_together.ensures.err)
