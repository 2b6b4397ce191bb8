use Rattle.tib_k_best.proofs.NormalBelow.{form_below, normal_below}
use Rattle.tib_k_best.proofs.laws.deterministic_below.Goals as goal

pub returns-clause-itself : goal.returns-clause-itself
returns-clause-itself g c = λ rules form. form_below rules form

pub returns-clause-normal : goal.returns-clause-normal
returns-clause-normal g c = λ states rules ends form more new is. normal_below g.S.Semiring.product states rules ends form more new is
