use Rattle.tib_key_edges.proofs.Leasts.{leasts_are_least}
use Rattle.tib_key_edges.proofs.composition.leasts_are_least.Goals as goal

pub returns : goal.returns
returns g c = λ two whole p s. leasts_are_least g.met.S.Semiring.laws two whole p s
