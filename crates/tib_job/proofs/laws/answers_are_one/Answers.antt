use Rattle.tib_job.proofs.OfJobs.{one_job_answer}
use Rattle.tib_job.proofs.laws.answers_are_one.Goals as goal

pub returns : goal.returns
returns c = one_job_answer
