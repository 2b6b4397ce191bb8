use Rattle.tib_canon.proofs.TrimmedOnce.{one_canonical}
use Rattle.tib_canon.proofs.laws.canonical_is_one.Goals as goal

pub returns : goal.returns
returns c = one_canonical
