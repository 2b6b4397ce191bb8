use Rattle.tib_grammar_file.proofs.FirstFaults.{faults_exact}
use Rattle.tib_grammar_file.proofs.laws.faults_are_read.Goals as goal

pub returns : goal.returns
returns c = faults_exact
