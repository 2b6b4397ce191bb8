use Rattle.tib_strings.proofs.OneByText.{one_by_text}
use Rattle.tib_strings.proofs.transducer_laws.one_string_transducer_by_text.Goals as goal

pub returns : goal.returns
returns c = one_by_text
