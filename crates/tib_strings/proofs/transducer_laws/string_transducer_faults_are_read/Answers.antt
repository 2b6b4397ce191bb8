use Rattle.tib_strings.proofs.FaultsOnce.{faults_exact}
use Rattle.tib_strings.proofs.transducer_laws.string_transducer_faults_are_read.Goals as goal

pub returns : goal.returns
returns c = faults_exact
