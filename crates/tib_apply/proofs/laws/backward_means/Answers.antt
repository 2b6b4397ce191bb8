use Rattle.tib_apply.proofs.laws.backward_means.Goals as goal
use Rattle.tib_apply.proofs.Preimages.{backward_means}

pub returns : goal.returns
returns g c moves shaped linear nondeleting grammar normal order rules found t v = backward_means g.met.S.Semiring.laws moves shaped linear nondeleting grammar normal order rules found t v
