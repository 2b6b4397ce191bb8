use Rattle.std.proofs.Common.{◌≡◌, get_or}
use Rattle.std.specs.Prelude.{false}
use Rattle.tib_inside.specs.Reaching.{chosen}
use Rattle.tib_inside.proofs.reaching.marked_places.Given as goal

abbrev pub invariant-loop-n : goal.invariant-loop-n
invariant-loop-n l = l.places.items ≡ chosen (λ i. get_or l.marks i false) l.n
