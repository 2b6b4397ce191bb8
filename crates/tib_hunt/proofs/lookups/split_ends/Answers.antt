use Rattle.std.proofs.Common.{◌++◌, ◌∷◌, [], sym, subst}
use Rattle.std.specs.Vec.Iter.{into_iter_items}
use Rattle.tib_hunt.specs.Known.{AreSplit}
use Rattle.tib_hunt.specs.declared.lookups.EndAt.TheVariants.{Numbered}
use Rattle.tib_hunt.proofs.KnownEnds.{split_known, split_lacked}
use Rattle.tib_table.proofs.Placed.{rest_next}
use Rattle.tib_hunt.proofs.lookups.split_ends.Goals as goal

pub loop-key-preserved-in-Some-find_position : goal.loop-key-preserved-in-Some-find_position
loop-key-preserved-in-Some-find_position g c = (
  rest_next c.loop-key.yielded (into_iter_items c.loop-key.key-iterator) c.in-Some.key (into_iter_items c.next.new.self) c.args.ends.items c.loop-key.invariant.0 c.in-Some.ensures.steps.0,
  subst (λ l. AreSplit c.args.keys.now.keys (c.loop-key.yielded ++ c.in-Some.key ∷ []) l c.loop-key.fresh.items) (sym c.in_ok-push.ensures.items)
      (split_known c.args.keys.now.keys c.loop-key.yielded c.loop-key.at.items c.loop-key.fresh.items c.in-Some.key c.in-Some-find_position.position c.loop-key.invariant.1 c.in-Some-find_position.ensures.some),
)

pub loop-key-preserved : goal.loop-key-preserved
loop-key-preserved g c = (
  rest_next c.loop-key.yielded (into_iter_items c.loop-key.key-iterator) c.in-Some.key (into_iter_items c.next.new.self) c.args.ends.items c.loop-key.invariant.0 c.in-Some.ensures.steps.0,
  subst (λ l. AreSplit c.args.keys.now.keys (c.loop-key.yielded ++ c.in-Some.key ∷ []) l c.push-in_default-2.new.self.items) (sym c.in_ok-push-2.ensures.items)
      (subst (λ l. AreSplit c.args.keys.now.keys (c.loop-key.yielded ++ c.in-Some.key ∷ []) (c.loop-key.at.items ++ Numbered ∷ []) l) (sym c.in_ok-push-3.ensures.items)
      (split_lacked c.args.keys.now.keys c.loop-key.yielded c.loop-key.at.items c.loop-key.fresh.items c.in-Some.key c.loop-key.invariant.1 c.in_default.ensures.none)),
)
