use Rattle.tib_determinize.proofs.Found.{vector_grammar}
use Rattle.tib_determinize.proofs.Starting.{same_series}
use Rattle.tib_determinize.proofs.laws.same_series.Goals as goal

pub returns : goal.returns
returns g c = λ rules normal order new found t v. same_series g.met.S.Semiring.laws rules normal order new (vector_grammar g.S.Semiring.product rules order g.met.S.Semiring.laws new found) t v
