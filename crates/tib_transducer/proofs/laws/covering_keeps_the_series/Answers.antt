use Rattle.tib_transducer.proofs.Covering.{same_series}
use Rattle.tib_transducer.proofs.laws.covering_keeps_the_series.Goals as goal

pub returns : goal.returns
returns g c = λ one two to from. same_series g.met.S.Semiring.laws one two to from
