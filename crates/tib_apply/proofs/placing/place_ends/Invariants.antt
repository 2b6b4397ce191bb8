use Rattle.std.proofs.Common.{◌≡◌, map, take, slice_index}
use Rattle.tib_apply.specs.BackwardLists.{item_with}
use Rattle.tib_apply.proofs.placing.place_ends.Given as goal

abbrev pub invariant-loop-item : goal.invariant-loop-item
invariant-loop-item l = l.placed.items ≡ map (item_with (slice_index l.ends)) (take l.item-index l.items)
