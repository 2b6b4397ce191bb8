use Rattle.std.proofs.Common.{◌≡◌, ◌+◌, ◌++◌, length}
use Rattle.std.specs.Vec.Iter.{into_iter_items}
use Rattle.tib_canon.specs.Keys.{marked}
use Rattle.tib_canon.proofs.numbering.marked_keys.Given as goal

abbrev pub invariant-loop-key : goal.invariant-loop-key
invariant-loop-key g l = record {
  whole : marked l.start 0 l.fn.order.items ≡ l.keys.items ++ marked l.start (length l.keys.items) (into_iter_items l.key-iterator);
  many : length l.fn.order.items ≡ length l.keys.items + length (into_iter_items l.key-iterator);
}
