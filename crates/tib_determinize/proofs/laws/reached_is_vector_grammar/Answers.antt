use Rattle.tib_determinize.proofs.Found.{vector_grammar}
use Rattle.tib_determinize.proofs.laws.reached_is_vector_grammar.Goals as goal

pub returns : goal.returns
returns g c = λ rules order new found. vector_grammar g.S.Semiring.product rules order g.met.S.Semiring.laws new found
