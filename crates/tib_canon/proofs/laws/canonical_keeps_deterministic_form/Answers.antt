use Rattle.tib_canon.proofs.DeterministicForms.{canonical_form}
use Rattle.tib_canon.proofs.laws.canonical_keeps_deterministic_form.Goals as goal

pub returns : goal.returns
returns c = canonical_form
