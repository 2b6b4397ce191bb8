use Rattle.tib_ranked_trees.proofs.laws.levels_list_best.Goals as goal
use Rattle.tib_ranked_trees.proofs.Leveling.{levels_list_best}

pub returns : goal.returns
returns g c = λ greater. levels_list_best g.met.S.Semiring.laws greater
