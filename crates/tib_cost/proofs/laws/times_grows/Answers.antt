use Rattle.tib_cost.proofs.Times.{times_grows}
use Rattle.tib_cost.proofs.laws.times_grows.Goals as goal

pub returns : goal.returns
returns g c = times_grows g.met.S.Semiring.laws
