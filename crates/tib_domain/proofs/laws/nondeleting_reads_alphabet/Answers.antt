use Rattle.tib_domain.proofs.Series.{nondeleting_reads}
use Rattle.tib_domain.proofs.laws.nondeleting_reads_alphabet.Goals as goal

pub returns : goal.returns
returns g c = nondeleting_reads g.S.Semiring.product
