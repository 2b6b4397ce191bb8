use Rattle.tib_grammar_file.proofs.PrintedSorted.{reads_sorted}
use Rattle.tib_grammar_file.proofs.laws.sorted_grammars_are_read.Goals as goal

pub returns : goal.returns
returns c = reads_sorted
