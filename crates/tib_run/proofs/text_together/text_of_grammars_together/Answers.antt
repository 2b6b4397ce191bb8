use Rattle.std.proofs.Common.{refl}
use Rattle.tib_command.specs.declared.job.Operation.TheVariants as operations
use Rattle.tib_job.proofs.Outcomes.{outcome_of, printed_outcome}
use Rattle.tib_run.proofs.text_together.text_of_grammars_together.Goals as goal

pub returns-in-Intersect : goal.returns-in-Intersect
returns-in-Intersect g c =
    outcome_of c.in-Intersect.is refl
    (printed_outcome operations.Intersect refl (λ printed. printed.text) c.intersection_of_together.result _ c.grammar_text.ensures tt c.intersection_of_together.ensures.within c.intersection_of_together.ensures.text c.intersection_of_together.ensures.err)
