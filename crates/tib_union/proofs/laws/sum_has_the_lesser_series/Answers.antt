use Rattle.tib_union.proofs.Summed.{sum_series}
use Rattle.tib_union.proofs.laws.sum_has_the_lesser_series.Goals as goal

pub returns : goal.returns
returns g c = sum_series g.met.S.Semiring.laws
