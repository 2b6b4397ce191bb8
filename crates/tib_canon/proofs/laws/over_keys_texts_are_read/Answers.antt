use Rattle.tib_canon.proofs.CanonicalTexts.{keys_text}
use Rattle.tib_canon.proofs.laws.over_keys_texts_are_read.Goals as goal

pub returns : goal.returns
returns g c scale labels order rules begin h few = keys_text g.met.S.Semiring.laws g.K.Ord.cmp scale labels order rules begin h few
