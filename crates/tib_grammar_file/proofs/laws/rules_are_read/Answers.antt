use Rattle.tib_grammar_file.proofs.RulesRead.{rules_read}
use Rattle.tib_grammar_file.proofs.laws.rules_are_read.Goals as goal

pub returns : goal.returns
returns c = rules_read
