use Rattle.tib_canon.proofs.DeterministicForms.{trimmed_form}
use Rattle.tib_canon.proofs.laws.trimming_keeps_deterministic_form.Goals as goal

pub returns : goal.returns
returns c = trimmed_form
