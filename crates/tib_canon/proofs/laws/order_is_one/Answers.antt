use Rattle.tib_canon.proofs.One.{one_order}
use Rattle.tib_canon.proofs.laws.order_is_one.Goals as goal

pub returns : goal.returns
returns c = one_order
