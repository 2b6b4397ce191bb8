use Rattle.tib_tree.proofs.Exact.{no_fault, one_fault}
use Rattle.tib_tree.proofs.one_tree_laws.one_tree_or_fault.Goals as goal

pub returns-clause-none : goal.returns-clause-none
returns-clause-none c = no_fault

pub returns-clause-one : goal.returns-clause-one
returns-clause-one c = one_fault
