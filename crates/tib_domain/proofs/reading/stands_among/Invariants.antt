use Rattle.std.proofs.Common.{◌≡◌, drop}
use Rattle.std.specs.Prelude.{nat_eq}
use Rattle.std.specs.List.{list_any}
use Rattle.tib_transducer.specs.Counting.{numbers_in}
use Rattle.tib_domain.proofs.reading.stands_among.Given as goal

abbrev pub invariant-loop-item : goal.invariant-loop-item
invariant-loop-item l = list_any (nat_eq l.variable) (numbers_in (drop l.item-index l.items)) ≡ list_any (nat_eq l.variable) (numbers_in l.items)
