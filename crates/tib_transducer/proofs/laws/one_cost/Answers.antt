use Rattle.tib_cost.proofs.Least.{IsLeast-unique}
use Rattle.tib_transducer.proofs.laws.one_cost.Goals as goal

pub returns : goal.returns
returns g c rules p t u v w h k = IsLeast-unique h k
