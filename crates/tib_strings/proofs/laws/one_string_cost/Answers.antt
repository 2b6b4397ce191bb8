use Rattle.tib_cost.proofs.Least.{IsLeast-unique}
use Rattle.tib_strings.proofs.laws.one_string_cost.Goals as goal

pub returns : goal.returns
returns g c rules t s v w h k = IsLeast-unique h k
