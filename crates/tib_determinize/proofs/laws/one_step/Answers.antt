use Rattle.tib_determinize.specs.OneStep.{one_step}
use Rattle.tib_determinize.proofs.laws.one_step.Goals as goal

pub returns : goal.returns
returns g c = one_step g.S.Semiring.product
