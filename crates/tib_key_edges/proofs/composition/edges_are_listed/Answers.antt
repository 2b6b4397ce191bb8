use Rattle.tib_key_edges.proofs.EdgeList.{edges_are_listed}
use Rattle.tib_key_edges.proofs.composition.edges_are_listed.Goals as goal

pub returns : goal.returns
returns g c = λ one two whole key. edges_are_listed g.S.Semiring.product one two whole key
