use Rattle.tib_ranked_trees.proofs.laws.walks_are_short.Goals as goal
use Rattle.tib_ranked_trees.proofs.Walks.{short}

pub returns : goal.returns
returns g c = short g.S.Semiring.product
