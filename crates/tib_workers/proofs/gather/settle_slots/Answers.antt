use Rattle.std.proofs.Common.{◌∙◌, ◌+◌, ◌∷◌, ap}
use Rattle.std.specs.Vec.Iter.{into_iter_items}
use Rattle.tib_workers.specs.Rows.{parts_of_slots}
use Rattle.tib_workers.proofs.Slotting.{settled, too_little}
use Rattle.tib_workers.proofs.gather.settle_slots.Goals as goal

pub loop-row-preserved : goal.loop-row-preserved
loop-row-preserved g c = (
  c.in-Ok-settle_slot.ensures.table,
  settled g.P.Task.gives g.P.Task.count_of (g.P.Problem.about c.args.task) c.args.seats.now.known c.loop-row.seats.known (parts_of_slots c.args.slots.items + c.args.left) c.loop-row.rows.items (into_iter_items c.loop-row.row-iterator) c.loop-row.item c.loop-row.left c.loop-row.invariant.1
      c.settle_slot.new.seats.known c.in-Ok-settle_slot.ensures.more c.in-Some.row c.in-Ok-settle_slot.row c.settle_slot.new.left c.in-Ok-settle_slot.ensures.taken (into_iter_items c.next.new.self) c.in-Some.ensures.steps.0 c.push.new.self.items c.in-Ok-push.ensures.items,
)

pub returns-in-Err-clause-exceeds : goal.returns-in-Err-clause-exceeds
returns-in-Err-clause-exceeds g c =
    λ m.
    let x = c.in-Err.ensures.exceeds m in
    too_little g.P.Task.gives g.P.Task.count_of (g.P.Problem.about c.args.task) c.args.seats.now.known c.loop-row.seats.known (parts_of_slots c.args.slots.items + c.args.left) c.loop-row.rows.items (into_iter_items c.loop-row.row-iterator) c.loop-row.item c.loop-row.left c.loop-row.invariant.1
    g.P.Task.exceeds (into_iter_items c.next.new.self) (c.in-Some.ensures.steps.0 ∙ ap (λ s. s ∷ into_iter_items c.next.new.self) x.0) x.1
