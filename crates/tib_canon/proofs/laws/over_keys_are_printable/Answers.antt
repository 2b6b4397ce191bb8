use Rattle.tib_canon.proofs.PrintableRules.{begun_printable}
use Rattle.tib_canon.proofs.laws.over_keys_are_printable.Goals as goal

pub returns : goal.returns
returns g c scale labels = begun_printable scale labels g.K.Ord.cmp
