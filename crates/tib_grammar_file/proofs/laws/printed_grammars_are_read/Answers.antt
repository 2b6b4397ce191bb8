use Rattle.tib_grammar_file.proofs.PrintedBack.{prints_back}
use Rattle.tib_grammar_file.proofs.laws.printed_grammars_are_read.Goals as goal

pub returns : goal.returns
returns c = prints_back
