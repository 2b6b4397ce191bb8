use Rattle.std.proofs.Common.{◌≤◌, ◌+◌, ◌-◌, length}
use Rattle.tib_tree.specs.Grows.{Grows}
use Rattle.tib_tree.proofs.Counting.{IsUnderway}
use Rattle.tib_tree.proofs.one_tree.read_one_tree.Given as goal

abbrev pub invariant-loop-line : goal.invariant-loop-line
invariant-loop-line l = record {
  within : l.at ≤ length l.bytes;
  number : l.number ≤ l.at + 1;
  underway : IsUnderway l.fn.labels l.labels l.found l.number l.at l.bytes;
  few : length l.labels ≤ length l.fn.labels + l.at;
  grows : Grows l.fn.labels l.labels;
}

abbrev pub decreases-loop-line : goal.decreases-loop-line
decreases-loop-line l = length l.bytes - l.at
