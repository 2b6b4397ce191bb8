use Rattle.std.proofs.Common.{◌≡◌, length}
use Rattle.tib_match.specs.Counting.{IsOneAt}
use Rattle.tib_match.proofs.PlentySteps.{entry}
use Rattle.tib_match.proofs.plenty.hole_plenties.Given as goal

abbrev pub invariant-loop-state : goal.invariant-loop-state
invariant-loop-state g l = record {
  long : length l.states.items ≡ l.state;
  ones : IsOneAt l.cost (entry l.states.items);
}
