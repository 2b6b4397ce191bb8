use Rattle.std.proofs.Common.{◌≡◌, ℕ, [], length}
use Rattle.tib_transducer.specs.Moves.{held}
use Rattle.tib_image.proofs.parse.moves.empty_buckets.Given as goal

abbrev pub invariant-loop : goal.invariant-loop
invariant-loop l = record {
  long : length l.buckets.items ≡ l.counter;
  empty : (q : ℕ) → held l.buckets.items q ≡ [];
}
