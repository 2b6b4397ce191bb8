use Rattle.std.proofs.Common.{◌+◌, ◌≤◌, length, drop}
use Rattle.tib_inside.specs.Settling.{costs_in, IsSettling}
use Rattle.tib_inside.proofs.pending.spread.Given as goal

abbrev pub invariant-loop-n : goal.invariant-loop-n
invariant-loop-n g l = record {
  settling : IsSettling g.S.Semiring.product l.rules (costs_in l.costs) l.cost (drop l.n-index l.uses) l.pending.items l.agenda;
  more : length l.agenda ≤ length l.initial.agenda + l.n-index;
}
