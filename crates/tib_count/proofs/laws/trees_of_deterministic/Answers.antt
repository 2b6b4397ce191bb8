use Rattle.tib_count.proofs.OneTree.{trees_of_deterministic}
use Rattle.tib_count.proofs.laws.trees_of_deterministic.Goals as goal

pub returns : goal.returns
returns c = trees_of_deterministic
