use Rattle.std.proofs.Common.{refl}
use Rattle.tib_determinize.proofs.examples.ambiguous_is_started.Goals as goal

pub returns : goal.returns
returns c = refl
