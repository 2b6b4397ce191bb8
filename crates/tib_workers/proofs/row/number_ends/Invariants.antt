use Rattle.std.proofs.Common.{◌≡◌}
use Rattle.tib_table.specs.Known.{GoOn}
use Rattle.tib_workers.specs.Rows.{NameOn}
use Rattle.tib_workers.proofs.row.number_ends.Given as goal

abbrev pub invariant-loop-key : goal.invariant-loop-key
invariant-loop-key g l =
    (goal.iterator-loop-key g).can_next l.key-iterator
    × (goal.iterator-loop-key g).is_finite l.key-iterator
    × (l.seats.table ≡ l.table)
    × GoOn l.fn.seats.known l.seats.known
    × NameOn l.seats.known l.yielded l.numbers.items
