use Rattle.tib_weigh.proofs.Nested.{distance, normal_form}
use Rattle.tib_weigh.proofs.examples.normal_forms_compute.Goals as goal

pub returns-clause-distance : goal.returns-clause-distance
returns-clause-distance c = distance

pub returns-clause-normal_form : goal.returns-clause-normal_form
returns-clause-normal_form c = normal_form
