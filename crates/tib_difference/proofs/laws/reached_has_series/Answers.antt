use Rattle.tib_difference.proofs.Meaning.{reached_has_series}
use Rattle.tib_difference.proofs.laws.reached_has_series.Goals as goal

pub returns : goal.returns
returns g c = λ one two n m order new found t v. reached_has_series g.S.Semiring.product g.met.S.Semiring.laws one two n m order new found t v
