use Rattle.std.proofs.Common.{◌≡◌, map, take}
use Rattle.tib_hunt.specs.Numbered.{moved_to}
use Rattle.tib_hunt.specs.Known.{position_on}
use Rattle.tib_hunt.proofs.placing.place_ends.Given as goal

abbrev pub invariant-loop-number : goal.invariant-loop-number
invariant-loop-number l = l.placed.items ≡ map (moved_to l.first l.moved) (map (position_on (map (λ v. v.items) l.positions)) (take l.number-index l.ends))
