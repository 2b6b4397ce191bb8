use Rattle.std.proofs.Common.{◌≤◌, ◌-◌, length, take}
use Rattle.tib_lex.specs.Grammar.{escape}
use Rattle.tib_tree.proofs.Writing.{HasWritten}
use Rattle.tib_tree.proofs.print.print_escaped.Given as goal

abbrev pub invariant-loop-at : goal.invariant-loop-at
invariant-loop-at g l = record {
  within : l.at ≤ length l.text;
  wrote : HasWritten (g.W.Sink.seen l.fn.out) (g.W.Sink.seen l.out) (escape (take l.at l.text));
}

abbrev pub decreases-loop-at : goal.decreases-loop-at
decreases-loop-at g l = length l.text - l.at
