use Rattle.tib_transducer_file.proofs.RulesBack.{prints_rules}
use Rattle.tib_transducer_file.proofs.printed_laws.printed_rules_are_read.Goals as goal

pub returns : goal.returns
returns c = prints_rules
