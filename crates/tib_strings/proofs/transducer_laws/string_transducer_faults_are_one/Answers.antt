use Rattle.tib_strings.proofs.FaultsOnce.{no_text, fault_once}
use Rattle.tib_strings.proofs.transducer_laws.string_transducer_faults_are_one.Goals as goal

pub returns-clause-none : goal.returns-clause-none
returns-clause-none c = no_text

pub returns-clause-one : goal.returns-clause-one
returns-clause-one c = fault_once
