use Rattle.std.proofs.Common.{ap, sym, ◌∙◌}
use Rattle.tib_tree.specs.Trees.{preorder_of}
use Rattle.tib_tree.specs.Pairs.{pairs_of}
use Rattle.tib_tree.proofs.Fill.{filled, tree_of_nodes, pairs-nodes_of_tree}
use Rattle.tib_tree.proofs.preorder.tree_of.Goals as goal

pub invariant_of-result : goal.invariant_of-result
invariant_of-result c = filled c.requires.0 c.args.nodes.items c.requires.1

pub returns : goal.returns
returns c =
    ap preorder_of (tree_of_nodes c.requires.0 c.args.nodes.items c.requires.1) ∙ sym (pairs-nodes_of_tree c.requires.0) ∙ sym (ap pairs_of c.requires.1)
