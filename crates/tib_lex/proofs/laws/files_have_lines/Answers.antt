use Rattle.tib_lex.proofs.HasLines.{lines_split}
use Rattle.tib_lex.proofs.laws.files_have_lines.Goals as goal

pub returns : goal.returns
returns c = lines_split
