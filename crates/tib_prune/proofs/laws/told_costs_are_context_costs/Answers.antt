use Rattle.tib_prune.proofs.Crossing.{told_context}
use Rattle.tib_prune.proofs.laws.told_costs_are_context_costs.Goals as goal

pub returns : goal.returns
returns g c = λ rules insides outsides are_insides exact n i d. told_context g.met.S.Semiring.laws rules insides are_insides outsides exact n i d
