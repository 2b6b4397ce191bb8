use Rattle.tib_canon.proofs.SeriesByName.{text_states}
use Rattle.tib_canon.proofs.TextOfOne.{text_of_one}
use Rattle.tib_canon.proofs.transducer_laws.text_has_one_transducer.Goals as goal

pub returns : goal.returns
returns c = record { one = text_of_one; named = text_states }
