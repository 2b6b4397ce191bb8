use Rattle.tib_key_edges.proofs.Composed.{triples_have_runs}
use Rattle.tib_key_edges.proofs.composition.triples_have_runs.Goals as goal

pub returns : goal.returns
returns g c = λ one two order rules h t v n m b. triples_have_runs g.met.S.Semiring.laws one two order rules h t v n m b
