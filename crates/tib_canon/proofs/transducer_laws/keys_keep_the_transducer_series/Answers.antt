use Rattle.tib_canon.proofs.TransducerOverKeys.{canonical_series}
use Rattle.tib_canon.proofs.transducer_laws.keys_keep_the_transducer_series.Goals as goal

pub returns : goal.returns
returns g c = canonical_series g.met.S.Semiring.laws g.K.Ord.cmp
