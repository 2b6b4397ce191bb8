use Rattle.tib_ranked_trees.proofs.laws.pass_lists_best.Goals as goal
use Rattle.tib_ranked_trees.proofs.Passing.{lists_best}

pub returns : goal.returns
returns g c = lists_best g.met.S.Semiring.laws
