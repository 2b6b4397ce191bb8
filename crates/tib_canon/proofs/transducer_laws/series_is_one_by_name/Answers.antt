use Rattle.tib_canon.proofs.SeriesByName.{one_series}
use Rattle.tib_canon.proofs.transducer_laws.series_is_one_by_name.Goals as goal

pub returns : goal.returns
returns g c t u a b same x y v = one_series t u a b same g.S.Semiring.product x y v
