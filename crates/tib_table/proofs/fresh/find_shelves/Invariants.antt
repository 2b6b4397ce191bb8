use Rattle.std.proofs.Common.{◌≡◌, ◌++◌, map}
use Rattle.std.specs.Vec.Iter.{into_iter_items}
use Rattle.tib_table.specs.Numbered.{placed, keys_of}
use Rattle.tib_expand.specs.Keys.{key_parts}
use Rattle.tib_table.proofs.Placed.{PlacedSoFar}
use Rattle.tib_table.proofs.fresh.find_shelves.Given as goal

abbrev pub invariant-loop-shelf : goal.invariant-loop-shelf
invariant-loop-shelf g l = PlacedSoFar g.K.PartialEq.eq g.met.K.TableKey.same g.met.K.Eq.laws.refl (key_parts g.K.TableKey.entries_of) l.keys.keys (map (λ v. v.items) l.fn.shelves.items) (map (λ v. v.items) l.yielded) (map (λ v. v.items) (into_iter_items l.shelf-iterator)) l.fn.parts l.limit (l.keys.keys ++ keys_of l.fresh.items) (map (λ v. v.items) l.positions.items) l.parts
    × (l.fresh.items ≡ placed 0 (keys_of l.fresh.items))
