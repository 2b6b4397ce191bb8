use Rattle.tib_key_edges.proofs.Standing.{composite_is_shaped}
use Rattle.tib_key_edges.proofs.composition.composite_is_shaped.Goals as goal

pub returns : goal.returns
returns g c = λ one two order rules w h. composite_is_shaped g.S.Semiring.product one two order rules w h
