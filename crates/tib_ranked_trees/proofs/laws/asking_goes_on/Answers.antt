use Rattle.tib_ranked_trees.proofs.laws.asking_goes_on.Goals as goal
use Rattle.tib_ranked_trees.proofs.Keeping.{keeps}

pub returns : goal.returns
returns g c = keeps g.S.Semiring.product
