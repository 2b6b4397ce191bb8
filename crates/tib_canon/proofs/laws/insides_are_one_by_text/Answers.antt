use Rattle.tib_canon.proofs.InsidesByText.{insides_by_text}
use Rattle.tib_canon.proofs.laws.insides_are_one_by_text.Goals as goal

pub returns : goal.returns
returns c = insides_by_text
