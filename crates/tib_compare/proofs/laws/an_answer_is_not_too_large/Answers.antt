use Rattle.tib_compare.proofs.OneAnswer.{not_too_large}
use Rattle.tib_compare.proofs.laws.an_answer_is_not_too_large.Goals as goal

pub returns : goal.returns
returns c = not_too_large
