use Rattle.tib_strings.proofs.Strings.{one_text}
use Rattle.tib_strings.proofs.string_laws.one_string_by_text.Goals as goal

pub returns : goal.returns
returns c = one_text
