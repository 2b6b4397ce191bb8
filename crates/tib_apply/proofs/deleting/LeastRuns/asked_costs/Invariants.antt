use Rattle.std.proofs.Common.{◌≡◌, ◌<◌, ◌≤◌, ℕ, length, get_or, None}
use Rattle.tib_apply.specs.LeastRuns.{asked_in}
use Rattle.tib_apply.proofs.deleting.LeastRuns.asked_costs.Given as goal

abbrev pub invariant-loop-state : goal.invariant-loop-state
invariant-loop-state l = record {
  within : l.state ≤ l.states;
  long : length l.costs.items ≡ l.state;
  set : (q : ℕ) → q < l.state → get_or l.costs.items q None ≡ asked_in l.self l.label q;
}
