use Rattle.tib_transducer_file.proofs.FaultsOnce.{faults_exact}
use Rattle.tib_transducer_file.proofs.laws.transducer_faults_are_read.Goals as goal

pub returns : goal.returns
returns c = faults_exact
