use Rattle.tib_canon.proofs.DeterministicForms.{order_form}
use Rattle.tib_canon.proofs.laws.order_keeps_deterministic_form.Goals as goal

pub returns : goal.returns
returns c = order_form
