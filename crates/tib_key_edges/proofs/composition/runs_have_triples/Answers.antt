use Rattle.tib_key_edges.proofs.Composed.{runs_have_triples}
use Rattle.tib_key_edges.proofs.composition.runs_have_triples.Goals as goal

pub returns : goal.returns
returns g c = λ one two order rules h t v n m. runs_have_triples g.met.S.Semiring.laws one two order rules h t v n m
