use Rattle.tib_canon.proofs.KeySeries.{canonical_series}
use Rattle.tib_canon.proofs.laws.keys_keep_the_series.Goals as goal

pub returns : goal.returns
returns g c product scale labels order rules start h is = canonical_series g.K.Ord.cmp product scale labels order rules start h is
