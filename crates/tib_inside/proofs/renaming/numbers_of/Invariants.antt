use Rattle.std.proofs.Common.{ℕ, ◌≡◌, ◌<◌, length, get_or}
use Rattle.tib_inside.proofs.renaming.numbers_of.Given as goal

abbrev pub invariant-loop-n : goal.invariant-loop-n
invariant-loop-n l = record {
  long : length l.numbers.items ≡ l.count;
  numbers : (i : ℕ) → i < l.n → get_or l.numbers.items (get_or l.states i 0) 0 ≡ i;
}
