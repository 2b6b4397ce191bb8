use Rattle.tib_determinize.proofs.Worked.{is_determinized}
use Rattle.tib_determinize.proofs.examples.ambiguous_is_determinized.Goals as goal

pub returns : goal.returns
returns c = is_determinized
