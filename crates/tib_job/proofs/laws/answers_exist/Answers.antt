use Rattle.tib_job.proofs.OfJobs.{answer_there}
use Rattle.tib_job.proofs.laws.answers_exist.Goals as goal

pub returns : goal.returns
returns c = answer_there
