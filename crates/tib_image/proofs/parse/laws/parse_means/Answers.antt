use Rattle.tib_image.proofs.parse.laws.parse_means.Goals as goal
use Rattle.tib_image.proofs.Parses.{parse_means}

pub returns : goal.returns
returns g c moves shaped linear nondeleting string order rules found t v = parse_means g.met.S.Semiring.laws moves shaped linear nondeleting string order rules found t v
