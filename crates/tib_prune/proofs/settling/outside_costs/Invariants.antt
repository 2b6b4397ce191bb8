use Rattle.std.proofs.Common.{◌≡◌, length}
use Rattle.tib_inside.specs.Settling.{costs_in, left_over}
use Rattle.tib_prune.specs.Settling.{AreSettling}
use Rattle.tib_prune.specs.Telling.{places_of}
use Rattle.tib_prune.proofs.settling.outside_costs.Given as goal

abbrev pub invariant-loop-entry : goal.invariant-loop-entry
invariant-loop-entry g l = record {
  settling : AreSettling g.S.Semiring.product l.normal.rules (costs_in l.insides) (costs_in l.outsides.items) l.agenda;
  long : length l.outsides.items ≡ length l.normal.names;
}

abbrev pub decreases-loop-entry : goal.decreases-loop-entry
decreases-loop-entry g l = left_over (places_of l.normal.rules) l.outsides.items l.agenda
