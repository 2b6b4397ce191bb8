use Rattle.tib_apply.specs.Forward.{IsForwardEdge}
use Rattle.tib_apply.specs.Backward.{IsBackwardEdge}
use Rattle.tib_apply.proofs.laws.one_set_each.Goals as goal
use Rattle.tib_apply.proofs.Reached.{one_key_set, same_forward_edge, same_backward_edge}

pub returns : goal.returns
returns g c grammar moves = (
  one_key_set (IsForwardEdge g.S.Semiring.product grammar moves) (same_forward_edge g.S.Semiring.product grammar moves),
  one_key_set (IsBackwardEdge g.S.Semiring.product moves grammar) (same_backward_edge g.S.Semiring.product moves grammar),
)
