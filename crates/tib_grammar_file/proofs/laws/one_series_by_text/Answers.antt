use Rattle.tib_grammar_file.proofs.RunsByText.{series_by_text}
use Rattle.tib_grammar_file.proofs.laws.one_series_by_text.Goals as goal

pub returns : goal.returns
returns c = series_by_text
