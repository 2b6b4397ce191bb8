use Rattle.tib_cost.proofs.Times.{times_regroups}
use Rattle.tib_cost.proofs.laws.times_regroups.Goals as goal

pub returns : goal.returns
returns g c = times_regroups g.met.S.Semiring.laws
