use Rattle.std.proofs.Common.{arith}
use Rattle.tib_canon.proofs.Compose.{compose_there}
use Rattle.tib_canon.proofs.transducer_laws.compositions_have_texts.Goals as goal

pub returns : goal.returns
returns g c scale limit low = compose_there g.met.S.Semiring.laws scale limit (omega (arith, low))
