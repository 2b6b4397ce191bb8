use Rattle.std.proofs.Common.{◌≡◌, map, take}
use Rattle.tib_apply.specs.BackwardLists.{item_with, number_from}
use Rattle.tib_apply.proofs.placing.number_variables.Given as goal

abbrev pub invariant-loop-item : goal.invariant-loop-item
invariant-loop-item l = l.numbered.items ≡ map (item_with (number_from l.first)) (take l.item-index l.items)
