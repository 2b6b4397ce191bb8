use Rattle.tib_canon.proofs.TransducerKeysOnce.{transducer_once}
use Rattle.tib_canon.proofs.transducer_laws.keys_have_one_transducer.Goals as goal

pub returns : goal.returns
returns g c = transducer_once g.K.Ord.cmp g.met.K.Ord.total
