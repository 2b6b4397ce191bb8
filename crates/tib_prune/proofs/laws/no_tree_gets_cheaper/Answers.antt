use Rattle.tib_prune.proofs.Pruned.{not_cheaper}
use Rattle.tib_prune.proofs.laws.no_tree_gets_cheaper.Goals as goal

pub returns : goal.returns
returns g c = λ rules new beam pruned. not_cheaper g.met.S.Semiring.laws rules beam new pruned
