use Rattle.std.proofs.Common.{◌++◌, ap, map}
use Rattle.std.specs.Vec.Iter.{into_iter_items}
use Rattle.tib_table.specs.Numbered.{keys_of}
use Rattle.tib_expand.specs.Keys.{key_parts}
use Rattle.tib_table.proofs.Placed.{shelf_told, shelf_placed}
use Rattle.tib_table.proofs.FreshKeys.{shelf_once, shelf_apart, shelf_has}
use Rattle.tib_table.proofs.fresh.find_shelves.Goals as goal

pub find_ends-requires-clause-lacked : goal.find_ends-requires-clause-lacked
find_ends-requires-clause-lacked g c lacked k h = c.requires.lacked lacked k (shelf_has (map (λ v. v.items) c.args.shelves.items) (map (λ v. v.items) c.loop-shelf.yielded) (map (λ v. v.items) (into_iter_items c.loop-shelf.shelf-iterator)) c.in-Some.shelf.items (map (λ v. v.items) (into_iter_items c.next.new.self)) c.loop-shelf.invariant.0.whole (ap (map (λ v. v.items)) c.in-Some.ensures.steps.0) k h)

pub find_ends-requires-clause-once : goal.find_ends-requires-clause-once
find_ends-requires-clause-once g c = shelf_once g.K.PartialEq.eq g.met.K.TableKey.same g.met.K.Eq.laws.refl (key_parts g.K.TableKey.entries_of) c.args.keys.now.keys (keys_of c.loop-shelf.fresh.items) (map (λ v. v.items) c.args.shelves.items) (map (λ v. v.items) c.loop-shelf.yielded) (map (λ v. v.items) (into_iter_items c.loop-shelf.shelf-iterator)) c.args.parts.now c.args.limit (map (λ v. v.items) c.loop-shelf.positions.items) c.loop-shelf.parts c.loop-shelf.invariant.0 c.requires.once c.in-Some.shelf.items (map (λ v. v.items) (into_iter_items c.next.new.self)) (ap (map (λ v. v.items)) c.in-Some.ensures.steps.0)

pub find_ends-requires-clause-apart : goal.find_ends-requires-clause-apart
find_ends-requires-clause-apart g c = shelf_apart g.K.PartialEq.eq g.met.K.TableKey.same g.met.K.Eq.laws.refl (key_parts g.K.TableKey.entries_of) c.args.keys.now.keys (keys_of c.loop-shelf.fresh.items) (map (λ v. v.items) c.args.shelves.items) (map (λ v. v.items) c.loop-shelf.yielded) (map (λ v. v.items) (into_iter_items c.loop-shelf.shelf-iterator)) c.args.parts.now c.args.limit (map (λ v. v.items) c.loop-shelf.positions.items) c.loop-shelf.parts c.loop-shelf.invariant.0 c.requires.once c.in-Some.shelf.items (map (λ v. v.items) (into_iter_items c.next.new.self)) (ap (map (λ v. v.items)) c.in-Some.ensures.steps.0)

pub returns-in-Err-clause-more : goal.returns-in-Err-clause-more
returns-in-Err-clause-more g c = shelf_told g.K.PartialEq.eq g.met.K.TableKey.same g.met.K.Eq.laws.refl (λ v. v.items) (λ v. v.items) (key_parts g.K.TableKey.entries_of) c.args.keys.now.keys c.args.shelves.items c.loop-shelf.yielded (into_iter_items c.loop-shelf.shelf-iterator) c.args.parts.now c.args.limit (c.args.keys.now.keys ++ keys_of c.loop-shelf.fresh.items) c.loop-shelf.positions.items c.loop-shelf.parts c.loop-shelf.invariant.0 c.in-Some.shelf (into_iter_items c.next.new.self) c.in-Some.ensures.steps.0 c.in-Err.error c.in-Err.ensures.more

pub loop-shelf-preserved : goal.loop-shelf-preserved
loop-shelf-preserved g c = (
  shelf_placed g.K.PartialEq.eq g.met.K.TableKey.same g.met.K.Eq.laws.refl (λ v. v.items) (λ v. v.items) (key_parts g.K.TableKey.entries_of) c.args.keys.now.keys c.args.shelves.items c.loop-shelf.yielded (into_iter_items c.loop-shelf.shelf-iterator) c.args.parts.now c.args.limit (c.args.keys.now.keys ++ keys_of c.loop-shelf.fresh.items) c.loop-shelf.positions.items c.loop-shelf.parts c.loop-shelf.invariant.0 c.in-Some.shelf (into_iter_items c.next.new.self) c.in-Some.ensures.steps.0
      (c.args.keys.now.keys ++ keys_of c.find_ends.new.fresh.items) c.in-Ok-find_ends.numbers c.push.new.self.items c.find_ends.new.parts c.in-Ok-push.ensures.items c.in-Ok-find_ends.ensures.keys c.in-Ok-find_ends.ensures.named c.in-Ok-find_ends.ensures.parts c.in-Ok-find_ends.ensures.within,
  c.in-Ok-find_ends.ensures.placed,
)
