use Rattle.tib_ranked_trees.proofs.laws.fronts_grow.Goals as goal
use Rattle.tib_ranked_trees.proofs.Going.{grow}

pub returns : goal.returns
returns g c = grow g.S.Semiring.product
