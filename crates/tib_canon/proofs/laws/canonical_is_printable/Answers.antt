use Rattle.tib_canon.proofs.PrintableRules.{canonical_printable}
use Rattle.tib_canon.proofs.laws.canonical_is_printable.Goals as goal

pub returns : goal.returns
returns c product scale labels = canonical_printable scale labels product
