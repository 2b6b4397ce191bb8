use Rattle.tib_key_edges.proofs.Exact.{one_reached}
use Rattle.tib_key_edges.proofs.composition.reached_set_is_one.Goals as goal

pub returns : goal.returns
returns g c = λ one two order other es fs h k. one_reached g.S.Semiring.product one two order other es fs h k
