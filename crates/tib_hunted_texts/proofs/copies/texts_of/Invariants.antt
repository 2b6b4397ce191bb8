use Rattle.std.proofs.Common.{◌≡◌, take, map}
use Rattle.tib_hunted_texts.proofs.copies.texts_of.Given as goal

abbrev pub invariant-loop-state : goal.invariant-loop-state
invariant-loop-state l = map (λ t. t.items) l.texts.items ≡ take l.state l.names
