use Rattle.tib_transducer.proofs.FirstParts.{shaped, within, leaves}
use Rattle.tib_transducer.proofs.examples.rules_compute.Goals as goal

pub returns-clause-shaped : goal.returns-clause-shaped
returns-clause-shaped c = shaped

pub returns-clause-within : goal.returns-clause-within
returns-clause-within c = within

pub returns-clause-leaves : goal.returns-clause-leaves
returns-clause-leaves c = leaves
