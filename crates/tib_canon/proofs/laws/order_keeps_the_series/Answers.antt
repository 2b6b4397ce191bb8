use Rattle.tib_canon.proofs.One.{series_kept}
use Rattle.tib_canon.proofs.laws.order_keeps_the_series.Goals as goal

pub returns : goal.returns
returns g c = series_kept g.met.S.Semiring.laws
