use Rattle.tib_count.proofs.CompleteRuns.{trimmed_keeps_runs}
use Rattle.tib_count.proofs.laws.trimmed_keeps_runs.Goals as goal

pub returns : goal.returns
returns c = trimmed_keeps_runs
