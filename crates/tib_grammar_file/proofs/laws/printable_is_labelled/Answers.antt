use Rattle.tib_grammar_file.proofs.Plain.{are_labelled}
use Rattle.tib_grammar_file.proofs.laws.printable_is_labelled.Goals as goal

pub returns : goal.returns
returns c = are_labelled
