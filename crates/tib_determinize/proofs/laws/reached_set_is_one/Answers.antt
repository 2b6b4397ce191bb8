use Rattle.tib_determinize.proofs.OneSet.{one_set}
use Rattle.tib_determinize.proofs.laws.reached_set_is_one.Goals as goal

pub returns : goal.returns
returns g c = one_set g.S.Semiring.product
