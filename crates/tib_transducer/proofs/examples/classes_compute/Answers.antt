use Rattle.std.proofs.Common.{arith}
use Rattle.tib_transducer.proofs.FirstParts.{linear, deleting, labelled, not_extended}
use Rattle.tib_transducer.proofs.examples.classes_compute.Goals as goal

pub returns-clause-linear : goal.returns-clause-linear
returns-clause-linear c = linear

pub returns-clause-deleting : goal.returns-clause-deleting
returns-clause-deleting c = deleting

pub returns-clause-labelled : goal.returns-clause-labelled
returns-clause-labelled c = labelled

pub returns-clause-one_labelled : goal.returns-clause-one_labelled
returns-clause-one_labelled c = (0, omega arith, labelled)

pub returns-clause-not_extended : goal.returns-clause-not_extended
returns-clause-not_extended c = not_extended
