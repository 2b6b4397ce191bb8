use Rattle.std.proofs.Common.{map, ◌≡◌, ◌++◌}
use Rattle.tib_normal.specs.PlaceNames.{names_of_places}
use Rattle.tib_normal.proofs.place_names.all_names.Given as goal

abbrev pub invariant-loop-place : goal.invariant-loop-place
invariant-loop-place l = map (λ t. t.items) l.texts.items ≡ l.names ++ names_of_places l.length l.place
