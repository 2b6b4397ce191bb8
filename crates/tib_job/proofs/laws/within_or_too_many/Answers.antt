use Rattle.tib_job.proofs.OfJobs.{within_apart, within_or_more}
use Rattle.tib_job.proofs.laws.within_or_too_many.Goals as goal

pub returns-clause-apart : goal.returns-clause-apart
returns-clause-apart c = within_apart

pub returns-clause-either : goal.returns-clause-either
returns-clause-either c = within_or_more
