use Rattle.std.proofs.Common.{◌≡◌, take, length}
use Rattle.tib_count.specs.Sums.{AreSummed}
use Rattle.tib_count.proofs.sums.sum_runs.Given as goal

abbrev pub invariant-loop-state : goal.invariant-loop-state
invariant-loop-state l = record {
  long : length l.totals.items ≡ l.count;
  summed : AreSummed l.rules (take l.state-index l.order) l.totals.items;
}
