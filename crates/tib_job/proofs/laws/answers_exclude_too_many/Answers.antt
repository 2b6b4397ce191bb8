use Rattle.tib_job.proofs.OfJobs.{answer_within, answer_apart}
use Rattle.tib_job.proofs.laws.answers_exclude_too_many.Goals as goal

pub returns-clause-within : goal.returns-clause-within
returns-clause-within c = answer_within

pub returns-clause-apart : goal.returns-clause-apart
returns-clause-apart c = answer_apart
