use Rattle.tib_prune.proofs.Pruned.{keeps_cost}
use Rattle.tib_prune.proofs.laws.cheap_trees_keep_their_costs.Goals as goal

pub returns : goal.returns
returns g c = λ rules new beam insides outsides costs pruned. keeps_cost g.met.S.Semiring.laws rules beam new pruned insides outsides costs
