use Rattle.tib_intersect.proofs.OrderFree.{order_is_free}
use Rattle.tib_intersect.proofs.laws.order_is_free.Goals as goal

pub returns : goal.returns
returns g c = order_is_free g.S.Semiring.product
