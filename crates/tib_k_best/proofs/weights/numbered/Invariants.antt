use Rattle.tib_k_best.specs.Weights.{AreNumbered}
use Rattle.tib_k_best.proofs.weights.numbered.Given as goal

abbrev pub invariant-loop-place : goal.invariant-loop-place
invariant-loop-place l = AreNumbered l.weights l.place l.pairs.items
