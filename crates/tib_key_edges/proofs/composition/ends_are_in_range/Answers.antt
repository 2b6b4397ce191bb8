use Rattle.tib_key_edges.proofs.Standing.{ends_are_in_range}
use Rattle.tib_key_edges.proofs.composition.ends_are_in_range.Goals as goal

pub returns : goal.returns
returns g c = λ one two m n a b key o e k low edge has. ends_are_in_range g.S.Semiring.product one two m n a b key o e k low edge has
