use Rattle.tib_apply.specs.Backward.{IsBackwardEdge}
use Rattle.tib_apply.proofs.laws.backward_is_reached.Goals as goal
use Rattle.tib_apply.proofs.Reached.{reached_grammar}

pub returns : goal.returns
returns g c moves grammar order rules range reached = reached_grammar (IsBackwardEdge g.S.Semiring.product moves grammar) order rules range reached
