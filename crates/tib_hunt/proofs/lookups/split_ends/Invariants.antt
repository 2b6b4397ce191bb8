use Rattle.std.proofs.Common.{◌≡◌, ◌++◌}
use Rattle.std.specs.Vec.Iter.{into_iter_items}
use Rattle.tib_hunt.specs.Known.{AreSplit}
use Rattle.tib_hunt.proofs.lookups.split_ends.Given as goal

abbrev pub invariant-loop-key : goal.invariant-loop-key
invariant-loop-key g l =
    (l.fn.ends.items ≡ l.yielded ++ into_iter_items l.key-iterator)
    × AreSplit l.keys.keys l.yielded l.at.items l.fresh.items
