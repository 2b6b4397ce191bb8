use Rattle.tib_grammar_file.proofs.TextRead.{no_text}
use Rattle.tib_grammar_file.proofs.laws.faults_have_no_text.Goals as goal

pub returns : goal.returns
returns c = no_text
