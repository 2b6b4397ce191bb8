use Rattle.tib_strings.proofs.Strings.{one_string}
use Rattle.tib_strings.proofs.string_laws.text_has_one_string.Goals as goal

pub returns : goal.returns
returns c = one_string
