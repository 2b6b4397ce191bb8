use Rattle.std.proofs.Common.{◌≡◌, take, map, ◌∷◌}
use Rattle.tib_normal.specs.Keys.{number_in}
use Rattle.tib_normal.proofs.normal.key.Given as goal

abbrev pub invariant-loop-item : goal.invariant-loop-item
invariant-loop-item l = l.numbers.items ≡ l.rule.left ∷ map number_in (take l.item-index l.items)
