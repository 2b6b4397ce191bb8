use Rattle.std.proofs.Common.{ℕ, ◌≡◌, ◌+◌, ◌<◌, ◌≤◌, length, get_or}
use Rattle.tib_normal.specs.Links.{IsNext, no_key}
use Rattle.tib_normal.proofs.links.Links.new.Given as goal

abbrev pub invariant-loop-n : goal.invariant-loop-n
invariant-loop-n l = record {
  within : l.n ≤ length l.keys;
  keys_long : length l.first.items ≡ l.count;
  places_long : length l.next.items ≡ length l.keys;
  first_is : (k : ℕ) → k < l.count → IsNext l.keys k l.n (get_or l.first.items k 0);
  next_is : (m : ℕ) → l.n ≤ m → m < length l.keys → get_or l.keys m no_key < l.count → IsNext l.keys (get_or l.keys m no_key) (m + 1) (get_or l.next.items m 0);
}

abbrev pub decreases-loop-n : goal.decreases-loop-n
decreases-loop-n l = l.n
