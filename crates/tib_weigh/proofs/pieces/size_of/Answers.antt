use Rattle.tib_weigh.proofs.Halving.{many_nodes}
use Rattle.tib_weigh.proofs.pieces.size_of.Goals as goal

pub returns : goal.returns
returns c = many_nodes c.args.tree.now c.nodes.result.now c.nodes.ensures.pairs
