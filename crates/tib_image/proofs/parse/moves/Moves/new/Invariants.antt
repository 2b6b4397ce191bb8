use Rattle.std.proofs.Common.{◌≡◌, ℕ, length, map, take}
use Rattle.tib_transducer.specs.Moves.{held, moves_of}
use Rattle.tib_image.specs.Restrictions.{as_rule}
use Rattle.tib_image.proofs.parse.moves.Moves.new.Given as goal

abbrev pub invariant-loop-n : goal.invariant-loop-n
invariant-loop-n g l = record {
  long : length l.buckets.items ≡ length l.transducer.names;
  held : (q : ℕ) → held l.buckets.items q ≡ moves_of q (take l.n (map as_rule l.transducer.rules));
}
