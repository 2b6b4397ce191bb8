use Rattle.tib_ranked_trees.proofs.laws.costs_are_ordered.Goals as goal
use Rattle.tib_ranked_trees.proofs.Ordered.{ordered}

pub returns : goal.returns
returns c = ordered
