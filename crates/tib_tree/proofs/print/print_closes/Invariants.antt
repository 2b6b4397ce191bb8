use Rattle.std.proofs.Common.{◌≤◌, ◌-◌}
use Rattle.std.specs.Prelude.{replicate}
use Rattle.tib_tree.proofs.Writing.{HasWritten}
use Rattle.tib_tree.proofs.print.print_closes.Given as goal

abbrev pub invariant-loop-done : goal.invariant-loop-done
invariant-loop-done g l = record {
  within : l.done ≤ l.count;
  wrote : HasWritten (g.W.Sink.seen l.fn.out) (g.W.Sink.seen l.out) (replicate l.done 41);
}

abbrev pub decreases-loop-done : goal.decreases-loop-done
decreases-loop-done g l = l.count - l.done
