use Rattle.tib_canon.proofs.ComposeByText.{compose_once}
use Rattle.tib_canon.proofs.transducer_laws.composition_text_is_one.Goals as goal

pub returns : goal.returns
returns g c scale limit labels others t u v w text other = compose_once scale g.S.Semiring.product limit labels others t u v w text other
