use Rattle.std.proofs.Common.{◌≡◌, map, take}
use Rattle.tib_hunt.specs.Numbered.{moved_to}
use Rattle.tib_hunt.proofs.row.move_ends.Given as goal

abbrev pub invariant-loop-number : goal.invariant-loop-number
invariant-loop-number l = l.numbers.items ≡ map (moved_to l.first l.moved) (take l.number-index l.ends)
