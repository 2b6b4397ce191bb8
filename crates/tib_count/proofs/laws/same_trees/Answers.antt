use Rattle.tib_count.proofs.FreeRuns.{same_trees, as_many_trees}
use Rattle.tib_count.proofs.laws.same_trees.Goals as goal

pub returns-clause-same : goal.returns-clause-same
returns-clause-same c = same_trees

pub returns-clause-many : goal.returns-clause-many
returns-clause-many c = as_many_trees
