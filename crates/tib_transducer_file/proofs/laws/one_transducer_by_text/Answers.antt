use Rattle.tib_transducer_file.proofs.OneByText.{one_by_text}
use Rattle.tib_transducer_file.proofs.laws.one_transducer_by_text.Goals as goal

pub returns : goal.returns
returns c = one_by_text
