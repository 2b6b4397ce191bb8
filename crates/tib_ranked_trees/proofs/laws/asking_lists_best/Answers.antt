use Rattle.tib_ranked_trees.proofs.laws.asking_lists_best.Goals as goal
use Rattle.tib_ranked_trees.proofs.Asking.{asking}

pub returns : goal.returns
returns g c = asking g.met.S.Semiring.laws
