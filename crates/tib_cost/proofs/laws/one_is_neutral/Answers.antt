use Rattle.tib_cost.proofs.Times.{times_neutral}
use Rattle.tib_cost.proofs.laws.one_is_neutral.Goals as goal

pub returns : goal.returns
returns g c = times_neutral g.met.S.Semiring.laws
