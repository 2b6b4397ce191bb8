use Rattle.tib_canon.proofs.Compose.{compose_series}
use Rattle.tib_canon.proofs.transducer_laws.compositions_have_their_series.Goals as goal

pub returns : goal.returns
returns g c = compose_series g.met.S.Semiring.laws
