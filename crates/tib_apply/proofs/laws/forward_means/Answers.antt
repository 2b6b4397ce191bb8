use Rattle.tib_apply.proofs.laws.forward_means.Goals as goal
use Rattle.tib_apply.proofs.Images.{forward_means}

pub returns : goal.returns
returns g c grammar normal costs range insides moves shaped linear order rules found u v = forward_means g.met.S.Semiring.laws grammar normal costs range insides moves shaped linear order rules found u v
