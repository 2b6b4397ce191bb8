use Rattle.tib_determinize.proofs.Listed.{edges_are_listed}
use Rattle.tib_determinize.proofs.laws.edges_are_listed.Goals as goal

pub returns : goal.returns
returns g c = λ rules order n os step low all computes are. edges_are_listed g.S.Semiring.product rules order n step low all computes os are
