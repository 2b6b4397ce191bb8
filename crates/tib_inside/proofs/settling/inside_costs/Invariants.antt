use Rattle.std.proofs.Common.{[], ◌≡◌, length}
use Rattle.tib_inside.specs.Settling.{costs_in, IsSettling, left_over}
use Rattle.tib_inside.proofs.settling.inside_costs.Given as goal

abbrev pub invariant-loop-entry : goal.invariant-loop-entry
invariant-loop-entry g l = record {
  settling : IsSettling g.S.Semiring.product l.rules (costs_in l.costs.items) 0 [] l.pending.items l.agenda;
  long : length l.costs.items ≡ l.count;
}

abbrev pub decreases-loop-entry : goal.decreases-loop-entry
decreases-loop-entry g l = left_over (length l.uses.rules.items) l.costs.items l.agenda
