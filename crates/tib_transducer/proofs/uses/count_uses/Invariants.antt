use Rattle.std.proofs.Common.{◌≡◌, ℕ, ◌<◌, ◌≤◌, length, get_or, drop}
use Rattle.tib_transducer.specs.Counting.{numbers_in}
use Rattle.tib_transducer.proofs.Counting.{AreCounted}
use Rattle.tib_transducer.proofs.uses.count_uses.Given as goal

abbrev pub invariant-loop-item : goal.invariant-loop-item
invariant-loop-item l = record {
  long : length l.uses ≡ 64;
  counted : AreCounted l.first l.uses (numbers_in (drop l.item-index l.items)) (numbers_in l.items);
  low : (k : ℕ) → k < 64 → get_or l.uses k 0 ≤ l.item-index;
}
