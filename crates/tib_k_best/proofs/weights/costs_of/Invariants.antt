use Rattle.std.proofs.Common.{◌≡◌, length}
use Rattle.tib_k_best.specs.Weights.{CostAsListed}
use Rattle.tib_k_best.proofs.weights.costs_of.Given as goal

abbrev pub invariant-loop-i : goal.invariant-loop-i
invariant-loop-i l = (length l.costs.items ≡ l.i) × CostAsListed l.list l.costs.items
