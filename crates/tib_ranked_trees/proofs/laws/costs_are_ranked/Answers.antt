use Rattle.tib_ranked_trees.proofs.laws.costs_are_ranked.Goals as goal
use Rattle.tib_ranked_trees.proofs.Ranks.{ranked}

pub returns : goal.returns
returns g c = ranked g.S.Semiring.product
