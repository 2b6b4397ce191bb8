use Rattle.tib_weigh.proofs.TwoWays.{sum_series, greatest_series, state_series}
use Rattle.tib_weigh.proofs.examples.series_compute.Goals as goal

pub returns-clause-sum : goal.returns-clause-sum
returns-clause-sum c = sum_series

pub returns-clause-greatest : goal.returns-clause-greatest
returns-clause-greatest c = greatest_series

pub returns-clause-at_a_state : goal.returns-clause-at_a_state
returns-clause-at_a_state c = state_series
