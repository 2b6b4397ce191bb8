use Rattle.tib_apply.specs.Forward.{IsForwardEdge}
use Rattle.tib_apply.proofs.laws.forward_is_reached.Goals as goal
use Rattle.tib_apply.proofs.Reached.{reached_grammar}

pub returns : goal.returns
returns g c grammar moves order rules range reached = reached_grammar (IsForwardEdge g.S.Semiring.product grammar moves) order rules range reached
