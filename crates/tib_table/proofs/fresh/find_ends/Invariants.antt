use Rattle.std.proofs.Common.{◌≡◌, ◌++◌}
use Rattle.std.specs.Vec.Iter.{into_iter_items}
use Rattle.tib_table.specs.Numbered.{placed, keys_of}
use Rattle.tib_expand.specs.Keys.{key_parts}
use Rattle.tib_table.proofs.Sights.{SoFar}
use Rattle.tib_table.proofs.fresh.find_ends.Given as goal

abbrev pub invariant-loop-key : goal.invariant-loop-key
invariant-loop-key g l = SoFar g.K.PartialEq.eq (key_parts g.K.TableKey.entries_of) (l.keys.keys ++ keys_of l.fn.fresh.items) l.fn.ends.items l.yielded (into_iter_items l.key-iterator) l.fn.parts l.limit (l.keys.keys ++ keys_of l.fresh.items) l.numbers.items l.parts
    × (l.fresh.items ≡ placed 0 (keys_of l.fresh.items))
