use Rattle.std.proofs.Common.{◌≡◌, ◌≤◌, ◌-◌, length, drop}
use Rattle.tib_lex.specs.Lists.{Each}
use Rattle.tib_weigh.specs.Entries.{cost_in}
use Rattle.tib_weigh.proofs.vector.place_of.Given as goal

abbrev pub invariant-loop-low : goal.invariant-loop-low
invariant-loop-low l = record {
  ordered : l.low ≤ l.high;
  within : l.high ≤ length l.vector;
  passed : cost_in (drop l.low l.vector) l.state ≡ cost_in l.vector l.state;
  rest : Each (λ e. l.state ≤ e.state) (drop l.high l.vector);
}

abbrev pub decreases-loop-low : goal.decreases-loop-low
decreases-loop-low l = l.high - l.low
