use Rattle.tib_cost.proofs.Times.{times_levelled}
use Rattle.tib_cost.proofs.laws.times_is_greater.Goals as goal

pub returns : goal.returns
returns g c = times_levelled g.met.S.Semiring.laws
