use Rattle.tib_job.proofs.ReadValues.{lent}
use Rattle.tib_run.proofs.text_alone.text_of.Goals as goal

pub text_of_lent-requires-clause-lent : goal.text_of_lent-requires-clause-lent
text_of_lent-requires-clause-lent g c κs within = lent c.args.values c.in_default.not-Grammar c.in_default.not-Grammars c.in_default.not-Transducer
