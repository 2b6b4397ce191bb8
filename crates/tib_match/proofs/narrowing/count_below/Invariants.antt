use Rattle.std.proofs.Common.{ℕ, ◌<◌, ◌≤◌, ◌-◌, length, get_or}
use Rattle.tib_grammar.specs.Run.{rule_at}
use Rattle.tib_match.proofs.narrowing.count_below.Given as goal

abbrev pub invariant-loop-low : goal.invariant-loop-low
invariant-loop-low l =
    (l.low ≤ l.high) × (l.high ≤ length l.positions)
    × ((i : ℕ) → i < l.low → (rule_at l.rules (get_or l.positions i 0)).left < l.state)
    × ((i : ℕ) → l.high ≤ i → i < length l.positions → l.state ≤ (rule_at l.rules (get_or l.positions i 0)).left)

abbrev pub decreases-loop-low : goal.decreases-loop-low
decreases-loop-low l = l.high - l.low
