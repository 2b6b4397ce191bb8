use Rattle.std.proofs.Common.{ap, sym, ◌∙◌}
use Rattle.tib_tree.specs.Trees.{preorder_of}
use Rattle.tib_tree.specs.Pairs.{pairs_of}
use Rattle.tib_tree.specs.TreeView.{tree_of}
use Rattle.tib_tree.proofs.Fill.{pairs-nodes_of_tree}
use Rattle.tib_tree.proofs.preorder.Tree.nodes.Goals as goal

pub returns-clause-pairs : goal.returns-clause-pairs
returns-clause-pairs c =
    ap pairs_of (c.deref.ensures.value ∙ sym c.self.invariant) ∙ pairs-nodes_of_tree (tree_of c.self.inside) ∙ ap preorder_of c.self.view_is
