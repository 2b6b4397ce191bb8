use Rattle.std.proofs.Common.{◌≡◌, ◌<◌, ◌≤◌, ℕ, length, get_or, None}
use Rattle.tib_match.specs.Boxes.{spanned, cost_at}
use Rattle.tib_match.proofs.columns.hole_column.Given as goal

abbrev pub invariant-loop-state : goal.invariant-loop-state
invariant-loop-state g l = record {
  within : l.state ≤ l.state-end;
  long : length l.costs.items ≡ l.state;
  set : (q : ℕ) → q < l.state → get_or l.costs.items q None ≡ spanned l.span (cost_at l.cost) q;
}
