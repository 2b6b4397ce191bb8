use Rattle.tib_key_edges.proofs.Composed.{is_composed}
use Rattle.tib_key_edges.proofs.composition.composed.Goals as goal

pub returns : goal.returns
returns g c = λ one two order rules h t v w. is_composed g.met.S.Semiring.laws one two order rules h t v w
