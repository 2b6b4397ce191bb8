use Rattle.tib_apply.proofs.laws.backward_is_least.Goals as goal
use Rattle.tib_apply.proofs.Families.{backward_least}

pub returns : goal.returns
returns g c moves grammar t a b h k v = backward_least g.met.S.Semiring.laws moves grammar t a b h k v
