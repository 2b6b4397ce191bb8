use Rattle.std.proofs.Common.{◌≤◌, ◌+◌, ◌-◌, length, drop}
use Rattle.tib_lex.specs.Lines.{lines_of, each_line}
use Rattle.tib_tree.specs.Grows.{Grows}
use Rattle.tib_transducer_file.specs.Rule.{rule_line_by}
use Rattle.tib_transducer_file.specs.Value.{IsRuleBy}
use Rattle.tib_transducer_file.proofs.RulesSoFar.{SoFar}
use Rattle.tib_transducer_file.proofs.rules.read_rules.Given as goal

abbrev pub invariant-loop-line : goal.invariant-loop-line
invariant-loop-line g l = record {
  within : l.at ≤ length l.bytes;
  from : l.start ≤ l.at;
  number : l.number ≤ l.at + 1;
  names : length l.names ≤ length l.fn.names + (l.at - l.start);
  labels : length l.labels ≤ length l.fn.labels + (l.at - l.start);
  rules_few : length l.rules.items ≤ l.at;
  grows : Grows l.fn.labels l.labels;
  so_far : SoFar (IsRuleBy g.R.RightReader.view) l.fn.names l.names l.fn.labels l.labels l.rules.items (each_line (rule_line_by g.R.RightReader.reads l.scale) l.number (lines_of (drop l.at l.bytes))) (each_line (rule_line_by g.R.RightReader.reads l.scale) l.first (lines_of (drop l.start l.bytes)));
}

abbrev pub decreases-loop-line : goal.decreases-loop-line
decreases-loop-line g l = length l.bytes - l.at
