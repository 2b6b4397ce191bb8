use Rattle.tib_normal.proofs.Existing.{forms_exist, not_both, not_neither}
use Rattle.tib_normal.proofs.laws.normal_forms_exist.Goals as goal

pub returns-clause-exist : goal.returns-clause-exist
returns-clause-exist g c states rules k = forms_exist g.S.Semiring.product states rules k

pub returns-clause-not_both : goal.returns-clause-not_both
returns-clause-not_both g c states rules limit small large = not_both g.S.Semiring.product states rules limit small large

pub returns-clause-not_neither : goal.returns-clause-not_neither
returns-clause-not_neither g c states rules limit small large = not_neither g.S.Semiring.product states rules limit small large
