use Rattle.tib_canon.proofs.NormalForms.{one_of_forms}
use Rattle.tib_canon.proofs.laws.normal_forms_have_one_canonical.Goals as goal

pub returns : goal.returns
returns g c scale labels states rules m n h i one two a b = one_of_forms g.S.Semiring.product states rules scale labels m n h i one two a b
