use Rattle.tib_trim.proofs.RunsOf.{costs_the_same}
use Rattle.tib_trim.proofs.laws.runs_cost_the_same.Goals as goal

pub returns : goal.returns
returns g c = costs_the_same g.S.Semiring.product
