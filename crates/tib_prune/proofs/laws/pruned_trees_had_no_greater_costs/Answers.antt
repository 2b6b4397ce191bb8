use Rattle.tib_prune.proofs.Pruned.{had_cost}
use Rattle.tib_prune.proofs.laws.pruned_trees_had_no_greater_costs.Goals as goal

pub returns : goal.returns
returns g c = λ rules new beam normal pruned. had_cost g.met.S.Semiring.laws rules beam new pruned normal
