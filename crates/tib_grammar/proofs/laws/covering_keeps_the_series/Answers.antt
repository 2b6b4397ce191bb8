use Rattle.tib_grammar.proofs.Covering.{same_series}
use Rattle.tib_grammar.proofs.laws.covering_keeps_the_series.Goals as goal

pub returns : goal.returns
returns g c = λ one two to from q t v. (same_series g.met.S.Semiring.laws one two to from q t v, same_series g.met.S.Semiring.laws two one from to q t v)
