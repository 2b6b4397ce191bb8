use Rattle.std.proofs.Common.{ℕ, ◌<◌, ◌≤◌, ◌-◌, length, get_or}
use Rattle.tib_determinize.proofs.holders.count_below.Given as goal

abbrev pub invariant-loop-low : goal.invariant-loop-low
invariant-loop-low l =
    (l.low ≤ l.high) × (l.high ≤ length l.positions)
    × ((i : ℕ) → i < l.low → get_or l.positions i 0 < l.least)
    × ((i : ℕ) → l.high ≤ i → i < length l.positions → l.least ≤ get_or l.positions i 0)

abbrev pub decreases-loop-low : goal.decreases-loop-low
decreases-loop-low l = l.high - l.low
