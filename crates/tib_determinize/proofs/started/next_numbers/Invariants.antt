use Rattle.std.proofs.Common.{◌≡◌, ℕ, ◌+◌, ◌<◌, length, get_or}
use Rattle.tib_determinize.proofs.started.next_numbers.Given as goal

abbrev pub invariant-loop-number : goal.invariant-loop-number
invariant-loop-number l = record {
  long : length l.numbers.items ≡ l.number;
  next : (q : ℕ) → q < l.number → get_or l.numbers.items q 0 ≡ q + 1;
}
