use Rattle.std.proofs.Common.{◌≡◌, ◌≤◌, length, map, drop}
use Rattle.tib_grammar.specs.Items.{state_in}
use Rattle.tib_apply.specs.LeastRuns.{inside_total}
use Rattle.tib_apply.proofs.deleting.total_of.Given as goal

abbrev pub invariant-loop-i : goal.invariant-loop-i
invariant-loop-i g l = record {
  within : l.i ≤ length l.states;
  total : l.total ≡ inside_total g.S.Semiring.product l.insides (map state_in (drop l.i l.states));
}

abbrev pub decreases-loop-i : goal.decreases-loop-i
decreases-loop-i g l = l.i
