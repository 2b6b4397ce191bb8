use Rattle.std.proofs.Common.{◌≡◌, ◌++◌, ℕ, map, take}
use Rattle.tib_difference.specs.Held.{held}
use Rattle.tib_difference.specs.Tries.{places_with, states_in}
use Rattle.tib_difference.proofs.lists.add_places.Given as goal

abbrev pub invariant-loop-place : goal.invariant-loop-place
invariant-loop-place l = (q : ℕ) → held l.lists.items q ≡ held l.initial.lists.items q ++ map (λ j. (l.number, j)) (places_with q (take l.place (states_in l.rules l.number)))
