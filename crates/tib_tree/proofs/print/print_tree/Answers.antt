use Rattle.std.proofs.Common.{refl, length}
use Rattle.tib_tree.proofs.Writing.{joined, cut_off}
use Rattle.tib_tree.proofs.Printing.{tree_whole, labels_below}
use Rattle.tib_tree.proofs.print.print_tree.Goals as goal

pub print_nodes-requires : goal.print_nodes-requires
print_nodes-requires g c = record { labels = labels_below (length c.args.labels.now) c.args.tree.now c.nodes-nodes.result.now c.nodes-nodes.ensures.all c.requires }

pub returns-in-Ok : goal.returns-in-Ok
returns-in-Ok g c = joined _ _ _ _ _ _ _ _ _ c.in-Ok.is (tree_whole c.args.labels.now c.args.tree.now c.nodes-nodes.result.now _ c.text.result.now c.nodes-nodes.ensures.all c.text.ensures) c.print_label.ensures c.print_nodes.ensures

pub returns-in-Err : goal.returns-in-Err
returns-in-Err g c = cut_off _ _ _ _ _ _ _ _ _ c.in-Err.is refl (tree_whole c.args.labels.now c.args.tree.now c.nodes-nodes.result.now _ c.text.result.now c.nodes-nodes.ensures.all c.text.ensures) c.print_label.ensures
