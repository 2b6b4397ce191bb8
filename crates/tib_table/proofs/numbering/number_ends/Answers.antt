use Rattle.std.proofs.Common.{◌++◌, ◌∷◌, [], subst, sym}
use Rattle.tib_expand.specs.Keys.{key_parts}
use Rattle.tib_table.proofs.Sights.{SoFar, step, told}
use Rattle.std.specs.Vec.Iter.{into_iter_items}
use Rattle.tib_table.proofs.numbering.number_ends.Goals as goal

pub returns-in-Err-clause-more : goal.returns-in-Err-clause-more
returns-in-Err-clause-more g c = told g.K.PartialEq.eq (key_parts g.K.TableKey.entries_of) c.args.keys.now.keys c.args.ends.items c.loop-key.yielded (into_iter_items c.loop-key.key-iterator) c.args.parts.now c.args.limit c.loop-key.keys.keys c.loop-key.numbers.items c.loop-key.parts c.loop-key.invariant c.in-Some.key (into_iter_items c.next.new.self) c.in-Some.ensures.steps.0 c.in-Err.error c.in-Err.ensures.more

pub loop-key-preserved : goal.loop-key-preserved
loop-key-preserved g c =
    subst (λ l. SoFar g.K.PartialEq.eq (key_parts g.K.TableKey.entries_of) c.args.keys.now.keys c.args.ends.items (c.loop-key.yielded ++ c.in-Some.key ∷ []) (into_iter_items c.next.new.self) c.args.parts.now c.args.limit c.number_key.new.keys.keys l c.number_key.new.parts) (sym c.in-Ok-push.ensures.items)
    (step g.K.PartialEq.eq (key_parts g.K.TableKey.entries_of) c.args.keys.now.keys c.args.ends.items c.loop-key.yielded (into_iter_items c.loop-key.key-iterator) c.args.parts.now c.args.limit c.loop-key.keys.keys c.loop-key.numbers.items c.loop-key.parts c.loop-key.invariant c.in-Some.key (into_iter_items c.next.new.self) c.in-Some.ensures.steps.0
    c.number_key.new.keys.keys c.in-Ok-number_key.number c.number_key.new.parts c.in-Ok-number_key.ensures.keys c.in-Ok-number_key.ensures.named c.in-Ok-number_key.ensures.parts c.in-Ok-number_key.ensures.within)
