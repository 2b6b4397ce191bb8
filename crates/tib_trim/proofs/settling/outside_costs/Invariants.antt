use Rattle.std.proofs.Common.{◌≡◌, length}
use Rattle.tib_inside.specs.Settling.{costs_in, left_over}
use Rattle.tib_prune.specs.Settling.{AreSettling}
use Rattle.tib_prune.specs.Telling.{places_of}
use Rattle.tib_trim.proofs.settling.outside_costs.Given as goal

abbrev pub invariant-loop-entry : goal.invariant-loop-entry
invariant-loop-entry g l = record {
  settling : AreSettling g.S.Semiring.product l.rules (costs_in l.insides) (costs_in l.outsides.items) l.agenda;
  long : length l.outsides.items ≡ length l.insides;
}

abbrev pub decreases-loop-entry : goal.decreases-loop-entry
decreases-loop-entry g l = left_over (places_of l.rules) l.outsides.items l.agenda
