use Rattle.tib_prune.proofs.Through.{none_kept}
use Rattle.tib_prune.proofs.laws.nothing_is_kept_without_runs.Goals as goal

pub returns : goal.returns
returns g c = λ rules insides outsides beam n costs. none_kept g.met.S.Semiring.laws rules insides outsides costs beam n
