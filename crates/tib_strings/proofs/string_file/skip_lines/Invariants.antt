use Rattle.std.proofs.Common.{◌≡◌, ◌≤◌, ◌+◌, ◌-◌, length, drop}
use Rattle.tib_lex.specs.Lines.{lines_of}
use Rattle.tib_strings.specs.StringReading.{rest_from}
use Rattle.tib_strings.proofs.string_file.skip_lines.Given as goal

abbrev pub invariant-loop-line : goal.invariant-loop-line
invariant-loop-line l = record {
  within : l.at ≤ length l.bytes;
  number : l.number ≤ l.at + 1;
  left : rest_from l.number (lines_of (drop l.at l.bytes)) ≡ rest_from l.first (lines_of (drop l.start l.bytes));
}

abbrev pub decreases-loop-line : goal.decreases-loop-line
decreases-loop-line l = length l.bytes - l.at
