use Rattle.std.proofs.Common.{arith}
use Rattle.tib_canon.proofs.CanonicalExists.{canonical_there}
use Rattle.tib_canon.proofs.laws.canonical_forms_exist.Goals as goal

pub returns : goal.returns
returns g c scale labels f some few = canonical_there g.met.S.Semiring.laws scale labels f some (omega arith)
