use Rattle.tib_job.proofs.RunsAlike.{runs_alike}
use Rattle.tib_job.proofs.laws.runs_end_alike.Goals as goal

pub returns : goal.returns
returns c = runs_alike
