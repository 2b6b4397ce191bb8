use Rattle.tib_prune.proofs.Equation.{meets}
use Rattle.tib_prune.proofs.laws.outsides_meet_their_equation.Goals as goal

pub returns : goal.returns
returns g c = λ rules insides outsides costs. meets g.met.S.Semiring.laws rules insides outsides costs
