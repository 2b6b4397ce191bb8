use Rattle.tib_transducer_file.proofs.OneTransducer.{one_transducer}
use Rattle.tib_transducer_file.proofs.laws.text_has_one_transducer.Goals as goal

pub returns : goal.returns
returns c = one_transducer
