use Rattle.tib_key_edges.proofs.Numbered.{numbered_series}
use Rattle.tib_key_edges.proofs.composition.numbers_keep_the_series.Goals as goal

pub returns : goal.returns
returns g c = λ states numbered rules are q b t u v. numbered_series g.S.Semiring.product states numbered rules are q b t u v
