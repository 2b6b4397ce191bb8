use Rattle.tib_ranked_trees.proofs.laws.firsts_are_best.Goals as goal
use Rattle.tib_ranked_trees.proofs.Firsts.{firsts_are_best}

pub returns : goal.returns
returns g c = firsts_are_best g.met.S.Semiring.laws
