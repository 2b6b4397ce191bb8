use Rattle.std.proofs.Common.{◌≡◌, take, map}
use Rattle.tib_expand.specs.EdgeLists.{position_of}
use Rattle.tib_transducer.specs.NamedPairs.{named_item}
use Rattle.tib_compose.proofs.settling.settled_items.Given as goal

abbrev pub invariant-loop-item : goal.invariant-loop-item
invariant-loop-item l = l.settled.items ≡ map (named_item (position_of l.ends)) (take l.item-index l.items)
