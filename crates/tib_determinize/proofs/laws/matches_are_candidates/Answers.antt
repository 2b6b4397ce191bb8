use Rattle.tib_determinize.proofs.Listed.{matches_are_candidates}
use Rattle.tib_determinize.proofs.laws.matches_are_candidates.Goals as goal

pub returns : goal.returns
returns g c = matches_are_candidates g.S.Semiring.product
