use Rattle.tib_compose.proofs.FlatEdges.{IsPutTo}
use Rattle.tib_compose.proofs.flat.put_right.Given as goal

abbrev pub invariant-loop-item : goal.invariant-loop-item
invariant-loop-item l = IsPutTo l.items l.right l.item-index l.done.items
