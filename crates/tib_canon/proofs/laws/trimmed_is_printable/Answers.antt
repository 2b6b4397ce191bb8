use Rattle.tib_canon.proofs.PrintableRules.{trimmed_printable}
use Rattle.tib_canon.proofs.laws.trimmed_is_printable.Goals as goal

pub returns : goal.returns
returns c product scale labels = trimmed_printable scale labels product
