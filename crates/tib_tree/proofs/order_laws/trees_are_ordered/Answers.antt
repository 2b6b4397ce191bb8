use Rattle.tib_tree.proofs.order_laws.trees_are_ordered.Goals as goal
use Rattle.tib_tree.proofs.TreeOrder.{ordered}

pub returns : goal.returns
returns c = ordered
