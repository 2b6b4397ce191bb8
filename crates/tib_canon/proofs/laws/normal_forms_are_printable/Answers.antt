use Rattle.std.proofs.Common.{length}
use Rattle.tib_canon.proofs.PrintableRules.{form_printable}
use Rattle.tib_canon.proofs.laws.normal_forms_are_printable.Goals as goal

pub returns : goal.returns
returns g c scale labels m n form printable = form_printable g.S.Semiring.product (g.met.S.Semiring.laws.neutral 0) scale labels (length m.names) m.rules printable (length n.names) n.rules form
