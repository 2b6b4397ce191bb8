use Rattle.std.proofs.Common.{◌++◌, ◌∷◌, [], subst, sym}
use Rattle.std.specs.Vec.Iter.{into_iter_items}
use Rattle.tib_table.specs.Numbered.{keys_of}
use Rattle.tib_expand.specs.Keys.{key_parts}
use Rattle.tib_table.proofs.Sights.{SoFar, step, told}
use Rattle.tib_table.proofs.FreshKeys.{next_apart, next_has}
use Rattle.tib_table.proofs.fresh.find_ends.Goals as goal

pub find_key-requires-clause-lacked : goal.find_key-requires-clause-lacked
find_key-requires-clause-lacked g c lacked = c.requires.lacked lacked c.in-Some.key (next_has c.args.ends.items c.loop-key.yielded (into_iter_items c.loop-key.key-iterator) c.in-Some.key (into_iter_items c.next.new.self) c.loop-key.invariant.0.whole c.in-Some.ensures.steps.0)

pub find_key-requires-clause-apart : goal.find_key-requires-clause-apart
find_key-requires-clause-apart g c = next_apart g.K.PartialEq.eq g.met.K.TableKey.same g.met.K.Eq.laws.refl (key_parts g.K.TableKey.entries_of) c.args.keys.now.keys (keys_of c.args.fresh.now.items) (keys_of c.loop-key.fresh.items) c.args.ends.items c.loop-key.yielded (into_iter_items c.loop-key.key-iterator) c.args.parts.now c.args.limit c.loop-key.numbers.items c.loop-key.parts c.loop-key.invariant.0 c.requires.once c.requires.apart c.in-Some.key (into_iter_items c.next.new.self) c.in-Some.ensures.steps.0

pub returns-in-Err-clause-more : goal.returns-in-Err-clause-more
returns-in-Err-clause-more g c = told g.K.PartialEq.eq (key_parts g.K.TableKey.entries_of) (c.args.keys.now.keys ++ keys_of c.args.fresh.now.items) c.args.ends.items c.loop-key.yielded (into_iter_items c.loop-key.key-iterator) c.args.parts.now c.args.limit (c.args.keys.now.keys ++ keys_of c.loop-key.fresh.items) c.loop-key.numbers.items c.loop-key.parts c.loop-key.invariant.0 c.in-Some.key (into_iter_items c.next.new.self) c.in-Some.ensures.steps.0 c.in-Err.error c.in-Err.ensures.more

pub loop-key-preserved : goal.loop-key-preserved
loop-key-preserved g c = (
  subst (λ l. SoFar g.K.PartialEq.eq (key_parts g.K.TableKey.entries_of) (c.args.keys.now.keys ++ keys_of c.args.fresh.now.items) c.args.ends.items (c.loop-key.yielded ++ c.in-Some.key ∷ []) (into_iter_items c.next.new.self) c.args.parts.now c.args.limit (c.args.keys.now.keys ++ keys_of c.find_key.new.fresh.items) l c.find_key.new.parts) (sym c.in-Ok-push.ensures.items)
      (step g.K.PartialEq.eq (key_parts g.K.TableKey.entries_of) (c.args.keys.now.keys ++ keys_of c.args.fresh.now.items) c.args.ends.items c.loop-key.yielded (into_iter_items c.loop-key.key-iterator) c.args.parts.now c.args.limit (c.args.keys.now.keys ++ keys_of c.loop-key.fresh.items) c.loop-key.numbers.items c.loop-key.parts c.loop-key.invariant.0 c.in-Some.key (into_iter_items c.next.new.self) c.in-Some.ensures.steps.0
      (c.args.keys.now.keys ++ keys_of c.find_key.new.fresh.items) c.in-Ok-find_key.number c.find_key.new.parts c.in-Ok-find_key.ensures.keys c.in-Ok-find_key.ensures.named c.in-Ok-find_key.ensures.parts c.in-Ok-find_key.ensures.within),
  c.in-Ok-find_key.ensures.placed,
)
