use Rattle.std.proofs.Common.{◌≡◌, ◌++◌, map}
use Rattle.std.specs.Vec.Iter.{into_iter_items}
use Rattle.tib_table.specs.Kept.{keys_of}
use Rattle.tib_table.proofs.shelves.list_shelves.Given as goal

abbrev pub invariant-loop-shelf : goal.invariant-loop-shelf
invariant-loop-shelf g l =
    (l.fn.shelves.items ≡ l.yielded ++ into_iter_items l.shelf-iterator)
    × (map (λ v. v.items) l.lists.items ≡ map keys_of l.yielded)
