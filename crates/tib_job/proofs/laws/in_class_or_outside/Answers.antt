use Rattle.tib_job.proofs.OfJobs.{answer_inside, outside_apart, inside_or_not}
use Rattle.tib_job.proofs.laws.in_class_or_outside.Goals as goal

pub returns-clause-answers : goal.returns-clause-answers
returns-clause-answers c = answer_inside

pub returns-clause-apart : goal.returns-clause-apart
returns-clause-apart c asked held file found = outside_apart asked held file found

pub returns-clause-either : goal.returns-clause-either
returns-clause-either c = inside_or_not
