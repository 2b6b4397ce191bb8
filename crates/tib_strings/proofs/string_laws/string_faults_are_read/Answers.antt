use Rattle.tib_strings.proofs.Strings.{faults_exact}
use Rattle.tib_strings.proofs.string_laws.string_faults_are_read.Goals as goal

pub returns : goal.returns
returns c = faults_exact
