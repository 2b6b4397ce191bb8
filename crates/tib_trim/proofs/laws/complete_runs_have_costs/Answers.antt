use Rattle.tib_trim.proofs.Complete.{has_cost, some_run}
use Rattle.tib_trim.proofs.laws.complete_runs_have_costs.Goals as goal

pub returns : goal.returns
returns g c = λ rules n v t. (has_cost rules n v t, some_run rules n v t)
