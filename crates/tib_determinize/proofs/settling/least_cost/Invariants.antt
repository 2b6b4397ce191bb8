use Rattle.std.proofs.Common.{◌≡◌, drop, None}
use Rattle.tib_determinize.specs.Settling.{least_from}
use Rattle.tib_determinize.proofs.settling.least_cost.Given as goal

abbrev pub invariant-loop-cost : goal.invariant-loop-cost
invariant-loop-cost l = least_from l.least (drop l.cost-index l.costs) ≡ least_from None l.costs
