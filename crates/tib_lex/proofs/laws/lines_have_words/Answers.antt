use Rattle.tib_lex.proofs.HasWords.{words_exact, bad_exact}
use Rattle.tib_lex.proofs.laws.lines_have_words.Goals as goal

pub returns-clause-words : goal.returns-clause-words
returns-clause-words c = words_exact

pub returns-clause-bad : goal.returns-clause-bad
returns-clause-bad c = bad_exact
