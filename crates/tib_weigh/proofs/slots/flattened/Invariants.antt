use Rattle.std.proofs.Common.{take}
use Rattle.tib_weigh.specs.Buckets.{lists_of}
use Rattle.tib_weigh.proofs.Flat.{FlatMore}
use Rattle.tib_weigh.proofs.slots.flattened.Given as goal

abbrev pub invariant-loop-list : goal.invariant-loop-list
invariant-loop-list l = record {
  flat : FlatMore l.starts.items l.ready.items (take l.list-index (lists_of l.lists)) l.list-index;
}
