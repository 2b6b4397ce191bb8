use Rattle.tib_prune.proofs.Counted.{kept_by_some, stands_in_run}
use Rattle.tib_prune.proofs.laws.beams_keep_rules_in_runs.Goals as goal

pub returns : goal.returns
returns g c = λ rules insides outsides costs n. (
  kept_by_some g.met.S.Semiring.laws rules insides outsides costs n,
  λ k. stands_in_run g.met.S.Semiring.laws rules insides outsides costs k.0 n k.2,
)
