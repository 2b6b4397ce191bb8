use Rattle.std.proofs.Common.{ap, refl}
use Rattle.tib_job.specs.Kinds.{kinds_of}
use Rattle.tib_job.proofs.ReadValues.{values_read, one_grammar, one_transducer}
use Rattle.tib_job.proofs.job_values.values_of.Goals as goal

pub returns-in-Ok-clause-texts : goal.returns-in-Ok-clause-texts
returns-in-Ok-clause-texts g c = values_read (one_grammar c.args.job.now.operation c.in-Inside.is) c.requires.mode refl c.in-Ok.ensures.texts

pub returns-in-Ok-one_of-clause-texts : goal.returns-in-Ok-one_of-clause-texts
returns-in-Ok-one_of-clause-texts g c = values_read (one_transducer c.args.job.now.operation c.in-Check.is) c.requires.mode refl c.in-Ok-one_of.ensures.texts

pub returns-in-Ok-one_of-2-clause-texts : goal.returns-in-Ok-one_of-2-clause-texts
returns-in-Ok-one_of-2-clause-texts g c = values_read (ap kinds_of c.in-Count.is) c.requires.mode refl c.in-Ok-one_of-2.ensures.texts

pub returns-in-Demo-clause-texts : goal.returns-in-Demo-clause-texts
returns-in-Demo-clause-texts g c = values_read (ap kinds_of c.in-Demo.is) c.requires.mode refl (record { distinct = c.len.ensures.distinct; texts = tt })

pub values_of_both-requires-clause-both : goal.values_of_both-requires-clause-both
values_of_both-requires-clause-both g c = c.in-Weigh.is
