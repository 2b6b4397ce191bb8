use Rattle.std.proofs.Common.{length}
use Rattle.tib_workers.proofs.Slotting.{IsPutting}
use Rattle.tib_workers.proofs.gather.put_rows.Given as goal

abbrev pub invariant-loop-row : goal.invariant-loop-row
invariant-loop-row g l = IsPutting g.P.Task.gives g.P.Task.count_of (g.P.Problem.about l.fn.task) l.fn.rows.items l.rows.items l.count l.slots.items l.used

abbrev pub decreases-loop-row : goal.decreases-loop-row
decreases-loop-row g l = length l.rows.items
