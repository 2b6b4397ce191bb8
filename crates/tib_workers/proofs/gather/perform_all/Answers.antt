use Rattle.std.proofs.Common.{arith}
use Rattle.tib_workers.proofs.Rowing.{in_order_stay}
use Rattle.tib_workers.proofs.gather.perform_all.Goals as goal

pub put_rows-requires-clause-bound : goal.put_rows-requires-clause-bound
put_rows-requires-clause-bound g c = λ k d l. let a = (c.in-Ok-take_hand.ensures.rows k d l).0 in let e = c.count-count.ensures in omega arith

pub returns-clause-rows : goal.returns-clause-rows
returns-clause-rows g c = in_order_stay g.P.Task.gives g.P.Task.count_of (g.P.Problem.about c.args.task) c.settle_slots.new.seats.known c.close-shelves.result c.close-shelves.ensures.known 0 c.in-Ok-settle_slots.rows.items c.in-Ok-settle_slots.ensures.rows
