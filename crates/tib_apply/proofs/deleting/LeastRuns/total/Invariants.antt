use Rattle.std.proofs.Common.{◌≡◌, ◌≤◌, length, map, drop}
use Rattle.tib_apply.specs.ForwardPlans.{asked_at}
use Rattle.tib_apply.specs.LeastRuns.{deleted_in}
use Rattle.tib_apply.proofs.deleting.LeastRuns.total.Given as goal

abbrev pub invariant-loop-i : goal.invariant-loop-i
invariant-loop-i g l = record {
  within : l.i ≤ length l.left_out;
  total : l.total ≡ deleted_in g.S.Semiring.product l.self (map (asked_at l.states) (drop l.i l.left_out));
}

abbrev pub decreases-loop-i : goal.decreases-loop-i
decreases-loop-i g l = l.i
