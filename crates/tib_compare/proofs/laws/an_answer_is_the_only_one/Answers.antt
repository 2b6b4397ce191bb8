use Rattle.tib_compare.proofs.OneAnswer.{one_answer}
use Rattle.tib_compare.proofs.laws.an_answer_is_the_only_one.Goals as goal

pub returns : goal.returns
returns c = one_answer
