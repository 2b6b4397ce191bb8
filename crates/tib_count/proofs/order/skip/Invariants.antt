use Rattle.std.proofs.Common.{length, ◌-◌}
use Rattle.tib_count.specs.Order.{Skips}
use Rattle.tib_count.proofs.order.skip.Given as goal

abbrev pub invariant-loop-place : goal.invariant-loop-place
invariant-loop-place l = Skips l.edges.froms.items l.edges.tos.items l.phases l.start l.place

abbrev pub decreases-loop-place : goal.decreases-loop-place
decreases-loop-place l = length l.edges.tos.items - l.place
