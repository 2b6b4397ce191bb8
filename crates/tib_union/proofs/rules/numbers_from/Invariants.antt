use Rattle.std.proofs.Common.{◌≡◌, ℕ, ◌+◌, ◌<◌, length, get_or}
use Rattle.tib_union.proofs.rules.numbers_from.Given as goal

abbrev pub invariant-loop-state : goal.invariant-loop-state
invariant-loop-state l = record {
  long : length l.numbers.items ≡ l.state;
  each : (q : ℕ) → q < l.state → get_or l.numbers.items q 0 ≡ l.first + q;
}
