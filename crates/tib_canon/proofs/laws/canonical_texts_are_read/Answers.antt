use Rattle.std.proofs.Common.{arith}
use Rattle.tib_canon.proofs.CanonicalTexts.{canonical_text}
use Rattle.tib_canon.proofs.laws.canonical_texts_are_read.Goals as goal

pub returns : goal.returns
returns g c scale labels m h some few range leaves printable canonical = canonical_text g.met.S.Semiring.laws scale labels m h canonical some range (omega arith) leaves printable
