use Rattle.tib_key_edges.proofs.Composed.{composes_series}
use Rattle.tib_key_edges.proofs.composition.composes_series.Goals as goal

pub returns : goal.returns
returns g c = λ one two order rules h t v a b x y w. composes_series g.met.S.Semiring.laws one two order rules h t v a b x y w
