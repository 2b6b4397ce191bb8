use Rattle.tib_cost.specs.declared.Scale.TheVariants.{Unweighted}
use Rattle.tib_job.proofs.values.SupportFileValue.read.Goals as goal

pub returns-in-Ok-clause-printable : goal.returns-in-Ok-clause-printable
returns-in-Ok-clause-printable c scale suits = c.read_grammars_are_printable.ensures Unweighted c.read_grammar.new.labels c.args.bytes.now c.in-Ok.grammar c.in-Ok.ensures.text.text
