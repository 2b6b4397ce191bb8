use Rattle.std.proofs.Common.{◌≡◌, take}
use Rattle.tib_image.proofs.parse.readers.copy_side.Given as goal

abbrev pub invariant-loop-item : goal.invariant-loop-item
invariant-loop-item l = l.copies.items ≡ take l.item-index l.items
