use Rattle.tib_k_best.proofs.Trimming.{trimmed_has_trees}
use Rattle.tib_k_best.proofs.laws.trimmed_has_trees.Goals as goal

pub returns : goal.returns
returns g c = trimmed_has_trees g.met.S.Semiring.laws
