use Rattle.tib_determinize.specs.OneStep.{keeps_its_laws}
use Rattle.tib_determinize.proofs.laws.is_an_operation.Goals as goal

pub returns : goal.returns
returns g c = λ states rules lefts. keeps_its_laws g.S.Semiring.product rules states lefts
