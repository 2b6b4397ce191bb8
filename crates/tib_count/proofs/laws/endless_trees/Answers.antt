use Rattle.tib_count.proofs.RunsLike.{endless_trees, few_trees}
use Rattle.tib_count.proofs.laws.endless_trees.Goals as goal

pub returns-clause-endless : goal.returns-clause-endless
returns-clause-endless c = endless_trees

pub returns-clause-few : goal.returns-clause-few
returns-clause-few c = few_trees
