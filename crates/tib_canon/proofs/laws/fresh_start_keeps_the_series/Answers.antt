use Rattle.tib_canon.proofs.KeySeries.{fresh_series}
use Rattle.tib_canon.proofs.laws.fresh_start_keeps_the_series.Goals as goal

pub returns : goal.returns
returns g c product scale labels order rules finals h is = fresh_series g.K.Ord.cmp product scale labels order rules finals h is
