use Rattle.std.proofs.Common.{arith}
use Rattle.tib_canon.proofs.TransducerTexts.{transducer_read}
use Rattle.tib_canon.proofs.transducer_laws.transducer_texts_are_read.Goals as goal

pub returns : goal.returns
returns g c scale labels order rules start h few moves all canonical = transducer_read g.K.Ord.cmp scale labels order rules start h canonical all (omega arith) moves
