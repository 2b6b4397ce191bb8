use Rattle.tib_normal.proofs.Normalizing.{normalized}
use Rattle.tib_normal.proofs.laws.normalized.Goals as goal

pub returns : goal.returns
returns g c states rules range lone more new form q h t v = normalized g.met.S.Semiring.laws states rules range lone more new form q h t v
