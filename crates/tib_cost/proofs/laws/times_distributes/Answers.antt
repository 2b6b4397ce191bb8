use Rattle.tib_cost.proofs.Times.{times_distributes}
use Rattle.tib_cost.proofs.laws.times_distributes.Goals as goal

pub returns : goal.returns
returns g c = times_distributes g.met.S.Semiring.laws
