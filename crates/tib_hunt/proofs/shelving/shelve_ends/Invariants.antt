use Rattle.std.proofs.Common.{◌≡◌}
use Rattle.std.specs.Vec.Iter.{into_iter_items}
use Rattle.tib_expand.specs.Keys.{key_parts}
use Rattle.tib_hunt.proofs.OnShelves.{ShelvedSoFar}
use Rattle.tib_hunt.proofs.shelving.shelve_ends.Given as goal

abbrev pub invariant-loop-key : goal.invariant-loop-key
invariant-loop-key g l =
    (l.round.about ≡ l.fn.round.about)
    × ShelvedSoFar g.P.Key.PartialEq.eq g.met.P.Key.TableKey.same g.met.P.Key.Eq.laws.refl g.P.Key.TableKey.shelf_of (λ x. g.met.P.Key.TableKey.low x) (key_parts g.P.Key.TableKey.entries_of) l.fn.round.core l.fn.ends.items l.yielded (into_iter_items l.key-iterator) l.limit l.round.core l.numbers.items l.seen
