use Rattle.std.proofs.Common.{◌≡◌, ◌+◌}
use Rattle.std.specs.Vec.Iter.{into_iter_items}
use Rattle.tib_workers.specs.Rows.{parts_of_slots}
use Rattle.tib_workers.proofs.Slotting.{IsSettling}
use Rattle.tib_workers.proofs.gather.settle_slots.Given as goal

abbrev pub invariant-loop-row : goal.invariant-loop-row
invariant-loop-row g l =
    (l.seats.table ≡ l.table)
    × IsSettling g.P.Task.gives g.P.Task.count_of (g.P.Problem.about l.task) l.fn.seats.known l.seats.known (parts_of_slots l.fn.slots.items + l.fn.left) l.rows.items (into_iter_items l.row-iterator) l.item l.left
