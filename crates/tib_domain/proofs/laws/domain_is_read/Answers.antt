use Rattle.tib_domain.proofs.Series.{domain_is_read}
use Rattle.tib_domain.proofs.laws.domain_is_read.Goals as goal

pub returns : goal.returns
returns g c = domain_is_read g.met.S.Semiring.laws
