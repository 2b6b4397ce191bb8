use Rattle.tib_job.proofs.Runs.{logged}
use Rattle.tib_run.proofs.command.run.Goals as goal

pub returns-clause-log : goal.returns-clause-log
returns-clause-log g c = logged _ _ _ _ c.tell.ensures
