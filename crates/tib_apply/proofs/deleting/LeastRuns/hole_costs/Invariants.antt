use Rattle.tib_apply.proofs.AffordableMatches.{AreCostsSoFar}
use Rattle.tib_apply.proofs.deleting.LeastRuns.hole_costs.Given as goal

abbrev pub invariant-loop-item : goal.invariant-loop-item
invariant-loop-item l = AreCostsSoFar l.self l.states l.kept l.items l.item-index l.costs.items
