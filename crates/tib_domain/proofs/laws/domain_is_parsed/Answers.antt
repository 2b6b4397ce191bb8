use Rattle.tib_domain.proofs.Series.{domain_is_parsed}
use Rattle.tib_domain.proofs.laws.domain_is_parsed.Goals as goal

pub returns : goal.returns
returns g c = domain_is_parsed g.met.S.Semiring.laws
