use Rattle.tib_count.proofs.CompleteRuns.{complete_have_runs}
use Rattle.tib_count.proofs.laws.trimmed_file_has_runs.Goals as goal

pub returns : goal.returns
returns g c = complete_have_runs g.S.Semiring.product
