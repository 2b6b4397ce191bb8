use Rattle.std.proofs.Common.{◌≡◌, map, take}
use Rattle.tib_rulewise.specs.Placed.{item_with}
use Rattle.tib_rulewise.specs.Paired.{pair_in}
use Rattle.tib_rulewise.proofs.from_transducer.paired_items.Given as goal

abbrev pub invariant-loop-item : goal.invariant-loop-item
invariant-loop-item l = l.paired.items ≡ map (item_with (pair_in l.listed)) (take l.item-index l.items)
