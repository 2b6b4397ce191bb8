use Rattle.tib_determinize.proofs.Found.{vector_grammar}
use Rattle.tib_determinize.proofs.WellStarted.{well_started}
use Rattle.tib_determinize.proofs.laws.started_is_deterministic.Goals as goal

pub returns : goal.returns
returns g c = λ rules order new found. well_started rules order new (vector_grammar g.S.Semiring.product rules order g.met.S.Semiring.laws new found)
