use Rattle.tib_ranked_trees.proofs.laws.large_is_listed.Goals as goal
use Rattle.tib_ranked_trees.proofs.Large.{large_is_listed}

pub returns : goal.returns
returns g c = large_is_listed g.S.Semiring.product
