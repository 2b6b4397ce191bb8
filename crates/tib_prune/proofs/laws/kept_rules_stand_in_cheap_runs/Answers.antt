use Rattle.tib_prune.proofs.Pruned.{stands_cheap}
use Rattle.tib_prune.proofs.laws.kept_rules_stand_in_cheap_runs.Goals as goal

pub returns : goal.returns
returns g c = λ rules new beam insides outsides costs pruned. stands_cheap g.met.S.Semiring.laws rules beam new pruned insides outsides costs
