use Rattle.tib_canon.proofs.DeterministicForms.{fresh_form}
use Rattle.tib_canon.proofs.laws.fresh_start_keeps_deterministic_form.Goals as goal

pub returns : goal.returns
returns g c = fresh_form g.K.Ord.cmp
