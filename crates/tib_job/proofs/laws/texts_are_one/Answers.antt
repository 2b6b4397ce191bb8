use Rattle.tib_job.proofs.OfJobs.{one_answer}
use Rattle.tib_job.proofs.laws.texts_are_one.Goals as goal

pub returns : goal.returns
returns c = one_answer
