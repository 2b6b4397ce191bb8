use Rattle.tib_prune.proofs.Contexts.{cut_at}
use Rattle.tib_prune.proofs.laws.cutting_makes_contexts.Goals as goal

pub returns : goal.returns
returns c = λ rules qs runs n are stands. cut_at rules runs qs n are stands
