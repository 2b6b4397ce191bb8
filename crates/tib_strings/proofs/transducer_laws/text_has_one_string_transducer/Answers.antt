use Rattle.tib_strings.proofs.OneTransducer.{one_transducer}
use Rattle.tib_strings.proofs.transducer_laws.text_has_one_string_transducer.Goals as goal

pub returns : goal.returns
returns c = one_transducer
