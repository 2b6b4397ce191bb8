use Rattle.tib_prune.proofs.Contexts.{plugged, plugged_cost}
use Rattle.tib_prune.proofs.laws.plugging_makes_runs.Goals as goal

pub returns : goal.returns
returns g c = λ rules qs q context run around is. (plugged rules context q qs run around is, plugged_cost g.met.S.Semiring.laws rules context run)
