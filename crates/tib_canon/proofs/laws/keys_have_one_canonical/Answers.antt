use Rattle.tib_canon.proofs.KeysOnce.{keys_once}
use Rattle.tib_canon.proofs.laws.keys_have_one_canonical.Goals as goal

pub returns : goal.returns
returns g c = keys_once g.K.Ord.cmp g.met.K.Ord.total
