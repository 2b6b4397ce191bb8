use Rattle.std.proofs.Common.{◌≤◌, ◌+◌, ◌-◌, length, drop}
use Rattle.tib_lex.specs.Lines.{lines_of}
use Rattle.tib_grammar_file.specs.Reading.{rules_from}
use Rattle.tib_grammar_file.proofs.RawRead.{SoFar}
use Rattle.tib_grammar_file.proofs.raw.read_rules.Given as goal

abbrev pub invariant-loop-line : goal.invariant-loop-line
invariant-loop-line l = record {
  within : l.at ≤ length l.bytes;
  number : l.number ≤ l.at + 1;
  names : length l.names ≤ length l.fn.names + (l.at - l.start);
  texts : length l.texts ≤ length l.fn.texts + (l.at - l.start);
  nodes : length l.raw.nodes.items ≤ l.at - l.start;
  from : l.start ≤ l.at;
  so_far : SoFar l.fn.names l.names l.texts l.raw (rules_from l.scale l.number (lines_of (drop l.at l.bytes))) (rules_from l.scale l.first (lines_of (drop l.start l.bytes)));
}

abbrev pub decreases-loop-line : goal.decreases-loop-line
decreases-loop-line l = length l.bytes - l.at
