use Rattle.std.proofs.Common.{arith}
use Rattle.tib_canon.proofs.CanonicalTexts.{normal_text}
use Rattle.tib_canon.proofs.laws.normal_texts_are_read.Goals as goal

pub returns : goal.returns
returns g c scale labels f m h some few = normal_text g.met.S.Semiring.laws scale labels f m h some (omega arith)
