use Rattle.std.proofs.Common.{◌∙◌, ◌++◌, ◌∷◌, [], ℕ, sym, subst}
use Rattle.std.specs.Vec.Iter.{into_iter_items}
use Rattle.tib_expand.specs.Keys.{key_parts}
use Rattle.tib_hunt.specs.RoundModel.{IsItem}
use Rattle.tib_hunt.proofs.OnShelves.{ShelvedSoFar, own, shelved, told}
use Rattle.tib_hunt.proofs.shelving.shelve_ends.Goals as goal

pub shelve_key-requires-clause-key : goal.shelve_key-requires-clause-key
shelve_key-requires-clause-key g c =
    subst (λ about. (i : ℕ) × IsItem (g.P.Itemized.first_of about) c.loop-key.round.core.drawn i × g.P.Itemized.is_end about i c.in-Some.key) (sym c.loop-key.invariant.0)
    (subst (λ drawn. (i : ℕ) × IsItem (g.P.Itemized.first_of c.args.round.now.about) drawn i × g.P.Itemized.is_end c.args.round.now.about i c.in-Some.key) (sym c.loop-key.invariant.1.drawn)
    (c.requires.ends c.in-Some.key (own g.P.Key.PartialEq.eq g.met.P.Key.TableKey.same g.met.P.Key.Eq.laws.refl g.P.Key.TableKey.shelf_of (λ x. g.met.P.Key.TableKey.low x) (key_parts g.P.Key.TableKey.entries_of) c.args.round.now.core c.args.ends.items c.loop-key.yielded (into_iter_items c.loop-key.key-iterator) c.args.limit c.loop-key.round.core c.loop-key.numbers.items c.loop-key.seen c.loop-key.invariant.1 c.in-Some.key (into_iter_items c.next.new.self) c.in-Some.ensures.steps.0)))

pub returns-in-Err-clause-more : goal.returns-in-Err-clause-more
returns-in-Err-clause-more g c = told g.P.Key.PartialEq.eq g.met.P.Key.TableKey.same g.met.P.Key.Eq.laws.refl g.P.Key.TableKey.shelf_of (λ x. g.met.P.Key.TableKey.low x) (key_parts g.P.Key.TableKey.entries_of) c.args.round.now.core c.args.ends.items c.loop-key.yielded (into_iter_items c.loop-key.key-iterator) c.args.limit c.loop-key.round.core c.loop-key.numbers.items c.loop-key.seen c.loop-key.invariant.1 c.in-Some.key (into_iter_items c.next.new.self) c.in-Some.ensures.steps.0 c.in-Err.error c.in-Err.ensures.more

pub loop-key-preserved : goal.loop-key-preserved
loop-key-preserved g c = (
  c.in-Ok-shelve_key.ensures.about ∙ c.loop-key.invariant.0,
  subst (λ l. ShelvedSoFar g.P.Key.PartialEq.eq g.met.P.Key.TableKey.same g.met.P.Key.Eq.laws.refl g.P.Key.TableKey.shelf_of (λ x. g.met.P.Key.TableKey.low x) (key_parts g.P.Key.TableKey.entries_of) c.args.round.now.core c.args.ends.items (c.loop-key.yielded ++ c.in-Some.key ∷ []) (into_iter_items c.next.new.self) c.args.limit c.shelve_key.new.round.core l c.shelve_key.new.seen) (sym c.in-Ok-push.ensures.items)
      (shelved g.P.Key.PartialEq.eq g.met.P.Key.TableKey.same g.met.P.Key.Eq.laws.refl g.P.Key.TableKey.shelf_of (λ x. g.met.P.Key.TableKey.low x) (key_parts g.P.Key.TableKey.entries_of) c.args.round.now.core c.args.ends.items c.loop-key.yielded (into_iter_items c.loop-key.key-iterator) c.args.limit c.loop-key.round.core c.loop-key.numbers.items c.loop-key.seen c.loop-key.invariant.1 c.in-Some.key (into_iter_items c.next.new.self) c.in-Some.ensures.steps.0 c.shelve_key.new.round.core c.in-Ok-shelve_key.number c.shelve_key.new.seen c.in-Ok-shelve_key.ensures.core c.in-Ok-shelve_key.ensures.named c.in-Ok-shelve_key.ensures.counted c.in-Ok-shelve_key.ensures.within),
)
