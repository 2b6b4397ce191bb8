use Rattle.tib_determinize.proofs.Listed.{seeds_are_listed}
use Rattle.tib_determinize.proofs.laws.seeds_are_listed.Goals as goal

pub returns : goal.returns
returns g c = λ rules fs step computes are. seeds_are_listed g.S.Semiring.product rules fs step computes are
