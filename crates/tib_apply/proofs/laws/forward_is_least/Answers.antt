use Rattle.tib_apply.proofs.laws.forward_is_least.Goals as goal
use Rattle.tib_apply.proofs.Families.{forward_least}

pub returns : goal.returns
returns g c grammar moves u a b h k v = forward_least g.met.S.Semiring.laws grammar moves u a b h k v
