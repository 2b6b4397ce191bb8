use Rattle.std.proofs.Common.{◌≤◌, ◌+◌, ◌-◌, length, drop}
use Rattle.tib_tree.specs.Grows.{Grows}
use Rattle.tib_tree.proofs.FileRead.{SoFar}
use Rattle.tib_tree.proofs.file.read_lines.Given as goal

abbrev pub invariant-loop-line : goal.invariant-loop-line
invariant-loop-line l = record {
  within : l.at ≤ length l.bytes;
  number : l.number ≤ l.at + 1;
  so_far : SoFar l.fn.labels l.labels l.trees.items l.number (drop l.at l.bytes) l.bytes;
  few : length l.labels ≤ length l.fn.labels + l.at;
  grows : Grows l.fn.labels l.labels;
}

abbrev pub decreases-loop-line : goal.decreases-loop-line
decreases-loop-line l = length l.bytes - l.at
