use Rattle.tib_image.proofs.parse.laws.reached_parses.Goals as goal
use Rattle.tib_image.proofs.ReachedParses.{reached_grammar}
use Rattle.tib_image.proofs.Parses.{parse_means}

pub returns : goal.returns
returns g c moves shaped linear nondeleting string order rules range reached t v =
    parse_means g.met.S.Semiring.laws moves shaped linear nondeleting string order rules (reached_grammar moves string order rules range reached) t v
