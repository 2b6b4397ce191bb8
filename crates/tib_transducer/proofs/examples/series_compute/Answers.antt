use Rattle.tib_transducer.proofs.FirstParts.{sum_series, no_series}
use Rattle.tib_transducer.proofs.examples.series_compute.Goals as goal

pub returns-clause-sum : goal.returns-clause-sum
returns-clause-sum c = sum_series

pub returns-clause-none : goal.returns-clause-none
returns-clause-none c = no_series
