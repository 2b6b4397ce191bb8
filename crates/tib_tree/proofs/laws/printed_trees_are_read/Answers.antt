use Rattle.tib_tree.proofs.ReadBack.{line_back, text_back}
use Rattle.tib_tree.proofs.laws.printed_trees_are_read.Goals as goal

pub returns-clause-line : goal.returns-clause-line
returns-clause-line c = line_back

pub returns-clause-text : goal.returns-clause-text
returns-clause-text c = text_back
