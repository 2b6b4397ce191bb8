use Rattle.std.proofs.Common.{refl}
use Rattle.tib_normal.proofs.ways.end_of.Goals as goal

pub returns-in-None : goal.returns-in-None
returns-in-None c = record { chain = λ q e. absurd (c.in-None.ensures.none q e); lone = λ h. absurd (h refl) }
