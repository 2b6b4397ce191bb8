use Rattle.tib_grammar_file.proofs.Plain.{stays}
use Rattle.tib_grammar_file.proofs.laws.printable_stays.Goals as goal

pub returns : goal.returns
returns c = stays
