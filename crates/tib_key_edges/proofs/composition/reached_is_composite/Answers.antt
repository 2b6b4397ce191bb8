use Rattle.tib_key_edges.proofs.Exact.{reached_is_composite}
use Rattle.tib_key_edges.proofs.composition.reached_is_composite.Goals as goal

pub returns : goal.returns
returns g c = λ one two order rules h b. reached_is_composite g.S.Semiring.product one two order rules h b
