use Rattle.tib_prune.proofs.Through.{through_to, through_from}
use Rattle.tib_prune.proofs.laws.through_costs_are_computed.Goals as goal

pub returns : goal.returns
returns g c = λ rules insides outsides costs n d h. (through_to g.met.S.Semiring.laws rules insides outsides costs n d h, through_from g.met.S.Semiring.laws rules insides outsides costs n d)
