use Rattle.std.proofs.Common.{◌≡◌, ◌+◌, ◌≤◌, ◌++◌, length, drop}
use Rattle.tib_compose.specs.CompositionListing.{placed, keys_in}
use Rattle.tib_compose.proofs.listing.place_items.Given as goal

abbrev pub invariant-loop-item : goal.invariant-loop-item
invariant-loop-item l = record {
  few : length l.ends.items ≤ length l.fn.ends.items + l.item-index;
  items : l.done.items ++ placed (length l.ends.items) (drop l.item-index l.items) ≡ placed (length l.fn.ends.items) l.items;
  ends : l.ends.items ++ keys_in (drop l.item-index l.items) ≡ l.fn.ends.items ++ keys_in l.items;
}
