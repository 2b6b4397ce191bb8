use Rattle.std.proofs.Common.{◌≡◌, ◌++◌}
use Rattle.std.specs.Prelude.{drop}
use Rattle.tib_k_best.specs.Weights.{places_from}
use Rattle.tib_k_best.proofs.weights.places_of.Given as goal

abbrev pub invariant-loop-place : goal.invariant-loop-place
invariant-loop-place l = l.places.items ++ places_from l.cost l.place (drop l.place l.weights) ≡ places_from l.cost 0 l.weights
