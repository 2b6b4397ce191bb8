use Rattle.tib_difference.specs.Difference.{difference}
use Rattle.tib_difference.specs.OneEdge.{difference_laws}
use Rattle.tib_difference.proofs.Reached.{one_set}
use Rattle.tib_difference.proofs.laws.reached_set_is_one.Goals as goal

pub returns : goal.returns
returns c = λ one two order other edges more h k. one_set (difference one two) (difference_laws one two) order other edges more h k
