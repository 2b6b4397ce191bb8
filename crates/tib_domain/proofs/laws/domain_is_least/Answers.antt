use Rattle.tib_domain.proofs.Series.{domain_is_least}
use Rattle.tib_domain.proofs.laws.domain_is_least.Goals as goal

pub returns : goal.returns
returns g c = domain_is_least g.S.Semiring.product
