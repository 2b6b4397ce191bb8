use Rattle.std.proofs.Common.{length, ap, ◌∙◌}
use Rattle.std.specs.Cmp.Lexicographic.{slice_cmp}
use Rattle.tib_tree.specs.Filled.{nodes_of_tree}
use Rattle.tib_tree.specs.Order.{node_cmp}
use Rattle.tib_tree.proofs.ByNodes.{trees_by_nodes, labels_of}
use Rattle.tib_tree.proofs.comparing.compare.Goals as goal

pub compare_lists-requires : goal.compare_lists-requires
compare_lists-requires c = record {
  left = labels_of (length c.args.labels.now) c.args.a.now c.nodes.result.now c.nodes.ensures.all c.requires.left;
  right = labels_of (length c.args.labels.now) c.args.b.now c.nodes-2.result.now c.nodes-2.ensures.all c.requires.right;
}

pub returns : goal.returns
returns c =
    c.compare_lists.ensures
    ∙ ap (λ xs. slice_cmp (node_cmp c.args.labels.now) xs c.nodes-2.result.now) c.nodes.ensures.all
    ∙ ap (slice_cmp (node_cmp c.args.labels.now) (nodes_of_tree c.args.a.now)) c.nodes-2.ensures.all
    ∙ trees_by_nodes c.args.labels.now c.args.a.now c.args.b.now
