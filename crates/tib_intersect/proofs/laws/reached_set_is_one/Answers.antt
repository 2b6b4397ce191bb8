use Rattle.tib_intersect.proofs.OrderFree.{one_set}
use Rattle.tib_intersect.proofs.laws.reached_set_is_one.Goals as goal

pub returns : goal.returns
returns g c = one_set g.S.Semiring.product
