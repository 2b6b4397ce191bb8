use Rattle.tib_tree.proofs.Read.{trees_read}
use Rattle.tib_tree.proofs.laws.nodes_are_read.Goals as goal

pub returns : goal.returns
returns c = trees_read
