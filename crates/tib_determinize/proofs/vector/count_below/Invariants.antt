use Rattle.std.proofs.Common.{ℕ, ◌<◌, ◌≤◌, ◌-◌, length, get_or}
use Rattle.tib_determinize.proofs.vector.count_below.Given as goal

abbrev pub invariant-loop-low : goal.invariant-loop-low
invariant-loop-low l =
    (l.low ≤ l.high) × (l.high ≤ length l.entries)
    × ((i : ℕ) → i < l.low → (get_or l.entries i (0, 0)).0 < l.state)
    × ((i : ℕ) → l.high ≤ i → i < length l.entries → l.state ≤ (get_or l.entries i (0, 0)).0)

abbrev pub decreases-loop-low : goal.decreases-loop-low
decreases-loop-low l = l.high - l.low
