use Rattle.tib_tree.proofs.Adding.{file_added}
use Rattle.tib_tree.proofs.TreesText.{reads, in_range}
use Rattle.tib_tree.proofs.file.read_trees.Goals as goal

pub returns-clause-trees : goal.returns-clause-trees
returns-clause-trees c = reads c.read_lines.new.labels c.args.bytes.now c.read_lines.result c.read_lines.ensures.trees

pub returns-clause-added : goal.returns-clause-added
returns-clause-added c = file_added c.args.labels.now c.read_lines.new.labels c.args.bytes.now c.read_lines.result c.read_lines.ensures.trees c.read_lines.ensures.added

pub returns-clause-labels : goal.returns-clause-labels
returns-clause-labels c = in_range c.read_lines.new.labels c.args.bytes.now c.read_lines.result c.read_lines.ensures.trees
