use Rattle.tib_canon.proofs.TransducerByText.{transducer_text_once}
use Rattle.tib_canon.proofs.transducer_laws.transducer_text_is_one.Goals as goal

pub returns : goal.returns
returns g c = transducer_text_once g.K.Ord.cmp g.met.K.Ord.total
