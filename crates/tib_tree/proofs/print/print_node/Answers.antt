use Rattle.tib_tree.proofs.Writing.{joined}
use Rattle.tib_tree.proofs.Runs.{label_there}
use Rattle.tib_tree.specs.Printed.{gap_text}
use Rattle.tib_tree.proofs.print.print_node.Goals as goal

pub returns-in-Ok : goal.returns-in-Ok
returns-in-Ok g c = joined _ _ _ _ _ _ _ _ _ c.in-Ok.is (label_there c.args.labels.now c.args.node.label c.text.result.now (gap_text c.args.above c.args.node.depth) c.text.ensures) c.print_gap.ensures c.print_label.ensures
