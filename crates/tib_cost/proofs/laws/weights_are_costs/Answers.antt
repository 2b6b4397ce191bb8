use Rattle.tib_cost.specs.Scale.{weight_of_cost, cost_of_weight, cost_within}
use Rattle.tib_cost.proofs.laws.weights_are_costs.Goals as goal

pub returns-clause-weight : goal.returns-clause-weight
returns-clause-weight g c = weight_of_cost g.S.Semiring.SCALE

pub returns-clause-cost : goal.returns-clause-cost
returns-clause-cost g c = cost_of_weight g.S.Semiring.SCALE

pub returns-clause-within : goal.returns-clause-within
returns-clause-within g c = cost_within g.S.Semiring.SCALE
