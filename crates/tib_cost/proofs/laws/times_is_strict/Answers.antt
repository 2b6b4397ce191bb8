use Rattle.tib_cost.proofs.Times.{times_strict}
use Rattle.tib_cost.proofs.laws.times_is_strict.Goals as goal

pub returns : goal.returns
returns g c = times_strict g.met.S.Semiring.laws
