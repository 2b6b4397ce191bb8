use Rattle.std.proofs.Common.{◌≡◌, ℕ, List, ◌∷◌, ◌<◌, ◌≤◌, ◌-◌, length}
use Rattle.std.specs.Prelude.{slice_get, Some}
use Rattle.tib_list_tests.proofs.shared_trees.labels_are_below.Given as goal

abbrev pub invariant-loop-i : goal.invariant-loop-i
invariant-loop-i l =
    (l.i ≤ length l.trees) × ((m f : ℕ) (ms : List ℕ) → m < l.i → slice_get l.trees m ≡ Some (f ∷ ms) → f < l.count)

abbrev pub decreases-loop-i : goal.decreases-loop-i
decreases-loop-i l = length l.trees - l.i
