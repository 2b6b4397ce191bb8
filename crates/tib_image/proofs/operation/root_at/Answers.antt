use Rattle.std.proofs.Common.{arith}
use Rattle.tib_image.proofs.Walking.{nodes_many, node_is}
use Rattle.tib_image.proofs.operation.root_at.Goals as goal

pub bounds-nodes-node : goal.bounds-nodes-node
bounds-nodes-node c = omega (arith, nodes_many c.args.tree.now c.nodes.result.now c.nodes.ensures.all, c.requires)

pub returns-clause-label : goal.returns-clause-label
returns-clause-label c = (node_is c.args.tree.now c.nodes.result.now c.args.node _ c.nodes.ensures.all c.requires).0

pub returns-clause-rank : goal.returns-clause-rank
returns-clause-rank c = (node_is c.args.tree.now c.nodes.result.now c.args.node _ c.nodes.ensures.all c.requires).1
