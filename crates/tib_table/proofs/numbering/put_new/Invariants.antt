use Rattle.std.specs.Vec.Iter.{into_iter_items}
use Rattle.tib_table.proofs.Sorting.{PutSoFar}
use Rattle.tib_table.proofs.numbering.put_new.Given as goal

abbrev pub invariant-loop-key : goal.invariant-loop-key
invariant-loop-key g l = PutSoFar g.K.PartialEq.eq g.met.K.TableKey.same l.fn.keys.keys l.fn.new.items l.yielded (into_iter_items l.key-iterator) l.keys.keys l.moved.items
