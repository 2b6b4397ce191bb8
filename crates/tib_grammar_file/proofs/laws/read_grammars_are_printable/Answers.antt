use Rattle.tib_grammar_file.proofs.Plain.{read_plain}
use Rattle.tib_grammar_file.proofs.laws.read_grammars_are_printable.Goals as goal

pub returns : goal.returns
returns c = read_plain
