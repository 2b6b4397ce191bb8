use Rattle.tib_trim.proofs.Complete.{is_least}
use Rattle.tib_trim.proofs.laws.through_costs_are_least.Goals as goal

pub returns : goal.returns
returns g c = λ rules insides outsides costs. is_least g.met.S.Semiring.laws rules insides outsides costs
