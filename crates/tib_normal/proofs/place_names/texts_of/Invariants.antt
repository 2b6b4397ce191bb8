use Rattle.std.proofs.Common.{map, take, ◌≡◌}
use Rattle.tib_normal.proofs.place_names.texts_of.Given as goal

abbrev pub invariant-loop-state : goal.invariant-loop-state
invariant-loop-state l = map (λ t. t.items) l.texts.items ≡ take l.state l.names
