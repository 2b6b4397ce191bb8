use Rattle.std.proofs.Common.{◌≡◌, length}
use Rattle.tib_normal.specs.Rules.{positions_with}
use Rattle.tib_match.specs.Counting.{AreChained, plenties_of}
use Rattle.tib_match.proofs.PlentySteps.{entry}
use Rattle.tib_match.proofs.plenty.label_plenties.Given as goal

abbrev pub invariant-loop-position : goal.invariant-loop-position
invariant-loop-position g l = record {
  long : length l.states.items ≡ length l.normal.names;
  chained : AreChained g.S.Semiring.product l.normal.rules (positions_with l.label l.rank l.normal.rules) (plenties_of l.below) l.front (entry l.states.items);
}
