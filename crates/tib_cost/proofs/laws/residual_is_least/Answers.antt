use Rattle.tib_cost.proofs.Times.{residual_times, residual_least}
use Rattle.tib_cost.proofs.laws.residual_is_least.Goals as goal

pub returns-clause-gives : goal.returns-clause-gives
returns-clause-gives g c = residual_times g.met.S.Semiring.laws

pub returns-clause-least : goal.returns-clause-least
returns-clause-least g c = residual_least g.met.S.Semiring.laws
