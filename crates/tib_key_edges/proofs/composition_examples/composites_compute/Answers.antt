use Rattle.tib_key_edges.proofs.Worked.{shaped, composite_is}
use Rattle.tib_key_edges.proofs.composition_examples.composites_compute.Goals as goal

pub returns-clause-shaped : goal.returns-clause-shaped
returns-clause-shaped c = shaped

pub returns-clause-composite : goal.returns-clause-composite
returns-clause-composite c = composite_is
