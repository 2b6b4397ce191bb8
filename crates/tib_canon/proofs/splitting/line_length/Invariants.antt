use Rattle.std.proofs.Common.{◌≡◌, ◌+◌, ◌≤◌, ◌-◌, length, drop}
use Rattle.std.specs.List.{prefix_len}
use Rattle.tib_lex.specs.Lines.{not_feed}
use Rattle.tib_canon.proofs.splitting.line_length.Given as goal

abbrev pub invariant-loop-count : goal.invariant-loop-count
invariant-loop-count l = (l.count ≤ length l.text) × (l.count + prefix_len not_feed (drop l.count l.text) ≡ prefix_len not_feed l.text)

abbrev pub decreases-loop-count : goal.decreases-loop-count
decreases-loop-count l = length l.text - l.count
