use Rattle.tib_cost.proofs.Times.{times_commutes}
use Rattle.tib_cost.proofs.laws.times_commutes.Goals as goal

pub returns : goal.returns
returns g c = times_commutes g.met.S.Semiring.laws
