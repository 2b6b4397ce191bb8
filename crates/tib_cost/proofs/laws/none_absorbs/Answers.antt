use Rattle.tib_cost.proofs.Times.{none_absorbs}
use Rattle.tib_cost.proofs.laws.none_absorbs.Goals as goal

pub returns-clause-right : goal.returns-clause-right
returns-clause-right g c = none_absorbs g.S.Semiring.product
