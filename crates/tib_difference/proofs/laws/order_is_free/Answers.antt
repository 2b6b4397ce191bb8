use Rattle.tib_difference.proofs.OrderFree.{order_is_free}
use Rattle.tib_difference.proofs.laws.order_is_free.Goals as goal

pub returns : goal.returns
returns c = order_is_free
