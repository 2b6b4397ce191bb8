use Rattle.tib_ranked_trees.proofs.laws.pass_goes_on.Goals as goal
use Rattle.tib_ranked_trees.proofs.Going.{goes_on}

pub returns : goal.returns
returns g c = goes_on g.S.Semiring.product
