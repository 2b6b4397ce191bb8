use Rattle.tib_ranked_trees.proofs.tree_laws.numbers_name_trees.Goals as goal
use Rattle.tib_ranked_trees.proofs.Numbers.{named}

pub returns : goal.returns
returns c = named
