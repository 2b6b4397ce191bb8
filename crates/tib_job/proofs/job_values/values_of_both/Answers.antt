use Rattle.std.proofs.Common.{ap, refl}
use Rattle.tib_job.specs.Kinds.{kinds_of, of_two_files}
use Rattle.tib_job.proofs.ReadValues.{values_read, another, two_grammars}
use Rattle.tib_job.proofs.job_values.values_of_both.Goals as goal

pub returns-in-Ok-clause-texts : goal.returns-in-Ok-clause-texts
returns-in-Ok-clause-texts g c = values_read (ap kinds_of c.in-Weigh.is) c.requires.mode refl c.in-Ok.ensures.texts

pub returns-in-Ok-two_of-clause-texts : goal.returns-in-Ok-two_of-clause-texts
returns-in-Ok-two_of-clause-texts g c = values_read (two_grammars c.args.job.now.operation c.in-Intersect.is) c.requires.mode refl c.in-Ok-two_of.ensures.texts

pub returns-in-Ok-two_of-2-clause-texts : goal.returns-in-Ok-two_of-2-clause-texts
returns-in-Ok-two_of-2-clause-texts g c = values_read (ap kinds_of c.in-Difference.is) c.requires.mode refl c.in-Ok-two_of-2.ensures.texts

pub returns-in-Ok-two_of-3-clause-texts : goal.returns-in-Ok-two_of-3-clause-texts
returns-in-Ok-two_of-3-clause-texts g c = values_read (ap kinds_of c.in-Forward.is) c.requires.mode refl c.in-Ok-two_of-3.ensures.texts

pub returns-in-Ok-two_of-4-clause-texts : goal.returns-in-Ok-two_of-4-clause-texts
returns-in-Ok-two_of-4-clause-texts g c = values_read (ap kinds_of c.in-Backward.is) c.requires.mode refl c.in-Ok-two_of-4.ensures.texts

pub returns-in-Ok-two_of-5-clause-texts : goal.returns-in-Ok-two_of-5-clause-texts
returns-in-Ok-two_of-5-clause-texts g c = values_read (ap kinds_of c.in-Compose.is) c.requires.mode refl c.in-Ok-two_of-5.ensures.texts

pub returns-in-Ok-two_of-6-clause-texts : goal.returns-in-Ok-two_of-6-clause-texts
returns-in-Ok-two_of-6-clause-texts g c = values_read (ap kinds_of c.in-Image.is) c.requires.mode refl c.in-Ok-two_of-6.ensures.texts

pub returns-in-Ok-two_of-7-clause-texts : goal.returns-in-Ok-two_of-7-clause-texts
returns-in-Ok-two_of-7-clause-texts g c = values_read (ap kinds_of c.in-Parse.is) c.requires.mode refl c.in-Ok-two_of-7.ensures.texts

pub returns-in-Ok-two_of-8-clause-texts : goal.returns-in-Ok-two_of-8-clause-texts
returns-in-Ok-two_of-8-clause-texts g c = values_read (ap kinds_of c.in-Compare.is) c.requires.mode refl c.in-Ok-two_of-8.ensures.texts

pub unreachable-requires : goal.unreachable-requires
unreachable-requires g c =
    another of_two_files c.args.job.now.operation c.requires.both
    (c.in_default.not-Weigh, (c.in_default.not-Intersect, (c.in_default.not-Union, (c.in_default.not-Difference, (c.in_default.not-Forward, (c.in_default.not-Backward, (c.in_default.not-Compose, (c.in_default.not-Image, (c.in_default.not-Parse, (c.in_default.not-Compare, tt))))))))))
