use Rattle.std.proofs.Common.{◌≡◌, length}
use Rattle.tib_k_best.specs.Weights.{CostFirst}
use Rattle.tib_k_best.proofs.weights.weights_of.Given as goal

abbrev pub invariant-loop-i : goal.invariant-loop-i
invariant-loop-i g l = (length l.weights.items ≡ l.i) × CostFirst g.S.Semiring.product l.normal.rules l.list l.weights.items
