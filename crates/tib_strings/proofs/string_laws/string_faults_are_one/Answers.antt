use Rattle.tib_strings.proofs.Strings.{no_fault, one_fault}
use Rattle.tib_strings.proofs.string_laws.string_faults_are_one.Goals as goal

pub returns-clause-none : goal.returns-clause-none
returns-clause-none c = no_fault

pub returns-clause-one : goal.returns-clause-one
returns-clause-one c = one_fault
