use Rattle.tib_determinize.proofs.Meaning.{reads_series}
use Rattle.tib_determinize.proofs.laws.determined.Goals as goal

pub returns : goal.returns
returns g c = λ rules normal order new found. reads_series g.S.Semiring.product g.met.S.Semiring.laws rules normal order new found
