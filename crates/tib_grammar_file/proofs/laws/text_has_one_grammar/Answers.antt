use Rattle.tib_grammar_file.proofs.OneGrammar.{one_grammar}
use Rattle.tib_grammar_file.proofs.laws.text_has_one_grammar.Goals as goal

pub returns : goal.returns
returns c = one_grammar
