use Rattle.tib_job.proofs.OfJobs.{job_answered, answered_or_more, answered_not_more, answered_not_outside}
use Rattle.tib_job.proofs.laws.jobs_have_answers.Goals as goal

pub returns-clause-within : goal.returns-clause-within
returns-clause-within c words asked held is are = job_answered asked held words is are

pub returns-clause-either : goal.returns-clause-either
returns-clause-either c words asked held is are = answered_or_more asked held words is are

pub returns-clause-apart : goal.returns-clause-apart
returns-clause-apart c = answered_not_more

pub returns-clause-outside : goal.returns-clause-outside
returns-clause-outside c = answered_not_outside
