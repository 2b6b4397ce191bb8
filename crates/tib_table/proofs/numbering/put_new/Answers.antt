use Rattle.std.proofs.Common.{◌++◌, ◌∷◌, [], sym, subst, set}
use Rattle.std.specs.Vec.Iter.{into_iter_items}
use Rattle.tib_table.proofs.Sorting.{PutSoFar, put}
use Rattle.tib_table.proofs.numbering.put_new.Goals as goal

pub loop-key-preserved : goal.loop-key-preserved
loop-key-preserved g c =
    subst (λ n. PutSoFar g.K.PartialEq.eq g.met.K.TableKey.same c.args.keys.now.keys c.args.new.items (c.loop-key.yielded ++ (c.in-Some.key, c.in-Some.place) ∷ []) (into_iter_items c.next.new.self) c.insert.new.self.keys (set c.loop-key.moved.items c.in-Some.place n)) (sym c.len-in-loop-key.ensures.len)
    (put g.K.PartialEq.eq g.met.K.TableKey.same c.args.keys.now.keys c.args.new.items c.loop-key.yielded (into_iter_items c.loop-key.key-iterator) c.loop-key.keys.keys c.loop-key.moved.items c.loop-key.invariant c.requires.places c.requires.one c.requires.distinct c.in-Some.key c.in-Some.place (into_iter_items c.next.new.self) c.in-Some.ensures.steps.0 c.insert.new.self.keys c.in-Ok.ensures.keys)
