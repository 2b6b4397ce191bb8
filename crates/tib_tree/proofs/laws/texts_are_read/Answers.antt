use Rattle.tib_tree.proofs.TreesText.{texts_exact, faults_exact}
use Rattle.tib_tree.proofs.laws.texts_are_read.Goals as goal

pub returns-clause-trees : goal.returns-clause-trees
returns-clause-trees c = texts_exact

pub returns-clause-faults : goal.returns-clause-faults
returns-clause-faults c = faults_exact
