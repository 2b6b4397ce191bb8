use Rattle.tib_prune.proofs.Through.{kept_to, kept_from}
use Rattle.tib_prune.proofs.laws.keeping_is_decided.Goals as goal

pub returns : goal.returns
returns g c = λ rules insides outsides beam best n costs start h. (kept_to g.met.S.Semiring.laws rules insides outsides costs beam best n start h, kept_from g.met.S.Semiring.laws rules insides outsides costs beam best n start)
