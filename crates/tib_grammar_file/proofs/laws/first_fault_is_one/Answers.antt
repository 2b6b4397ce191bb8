use Rattle.tib_grammar_file.proofs.FirstFaults.{fault_once}
use Rattle.tib_grammar_file.proofs.laws.first_fault_is_one.Goals as goal

pub returns : goal.returns
returns c = fault_once
