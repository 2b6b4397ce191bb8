use Rattle.std.proofs.Common.{length-append, refl, arith}
use Rattle.tib_table.specs.Numbered.{keys_of}
use Rattle.tib_table.proofs.Sorting.{places, one, distinct, as_many, all_in_order}
use Rattle.tib_table.proofs.FreshKeys.{turned}
use Rattle.tib_table.proofs.fresh.put_fresh_together.Goals as goal

pub put_new-requires-clause-places : goal.put_new-requires-clause-places
put_new-requires-clause-places g c = places g.K.Ord.cmp (g.met.K.Ord g.world.𝓛 g.world.𝓜 g.world.𝓡 ((λ s x. x), (λ x. x), (λ x. x), λ x. x)).total g.K.PartialEq.eq (g.met.K.TableKey g.world.𝓛 g.world.𝓜 g.world.𝓡 ((λ s x. x), (λ x. x), (λ x. x), λ x. x)).same (g.met.K.Eq g.world.𝓛 g.world.𝓜 g.world.𝓡 ((λ s x. x), (λ x. x), (λ x. x), λ x. x)).laws (g.met.K.Ord g.world.𝓛 g.world.𝓜 g.world.𝓡 ((λ s x. x), (λ x. x), (λ x. x), λ x. x)).matches_eq c.args.keys.now.keys (keys_of c.args.fresh.items) c.requires.distinct c.sort_by_halves.new.list.items (turned c.args.fresh.items c.sort_by_halves.new.list.items c.requires.placed c.in_ok-sort_by_halves.ensures.permutation) c.in_ok-sort_by_halves.ensures.sorted

pub put_new-requires-clause-one : goal.put_new-requires-clause-one
put_new-requires-clause-one g c = one g.K.Ord.cmp (g.met.K.Ord g.world.𝓛 g.world.𝓜 g.world.𝓡 ((λ s x. x), (λ x. x), (λ x. x), λ x. x)).total g.K.PartialEq.eq (g.met.K.TableKey g.world.𝓛 g.world.𝓜 g.world.𝓡 ((λ s x. x), (λ x. x), (λ x. x), λ x. x)).same (g.met.K.Eq g.world.𝓛 g.world.𝓜 g.world.𝓡 ((λ s x. x), (λ x. x), (λ x. x), λ x. x)).laws (g.met.K.Ord g.world.𝓛 g.world.𝓜 g.world.𝓡 ((λ s x. x), (λ x. x), (λ x. x), λ x. x)).matches_eq c.args.keys.now.keys (keys_of c.args.fresh.items) c.requires.distinct c.sort_by_halves.new.list.items (turned c.args.fresh.items c.sort_by_halves.new.list.items c.requires.placed c.in_ok-sort_by_halves.ensures.permutation) c.in_ok-sort_by_halves.ensures.sorted

pub put_new-requires-clause-distinct : goal.put_new-requires-clause-distinct
put_new-requires-clause-distinct g c = distinct g.K.Ord.cmp (g.met.K.Ord g.world.𝓛 g.world.𝓜 g.world.𝓡 ((λ s x. x), (λ x. x), (λ x. x), λ x. x)).total g.K.PartialEq.eq (g.met.K.TableKey g.world.𝓛 g.world.𝓜 g.world.𝓡 ((λ s x. x), (λ x. x), (λ x. x), λ x. x)).same (g.met.K.Eq g.world.𝓛 g.world.𝓜 g.world.𝓡 ((λ s x. x), (λ x. x), (λ x. x), λ x. x)).laws (g.met.K.Ord g.world.𝓛 g.world.𝓜 g.world.𝓡 ((λ s x. x), (λ x. x), (λ x. x), λ x. x)).matches_eq c.args.keys.now.keys (keys_of c.args.fresh.items) c.requires.distinct c.sort_by_halves.new.list.items (turned c.args.fresh.items c.sort_by_halves.new.list.items c.requires.placed c.in_ok-sort_by_halves.ensures.permutation) c.in_ok-sort_by_halves.ensures.sorted

pub put_new-requires-clause-few : goal.put_new-requires-clause-few
put_new-requires-clause-few g c =
    let a = length-append c.args.keys.now.keys (keys_of c.args.fresh.items) in
    let m = as_many g.K.Ord.cmp (g.met.K.Ord g.world.𝓛 g.world.𝓜 g.world.𝓡 ((λ s x. x), (λ x. x), (λ x. x), λ x. x)).total g.K.PartialEq.eq (g.met.K.TableKey g.world.𝓛 g.world.𝓜 g.world.𝓡 ((λ s x. x), (λ x. x), (λ x. x), λ x. x)).same (g.met.K.Eq g.world.𝓛 g.world.𝓜 g.world.𝓡 ((λ s x. x), (λ x. x), (λ x. x), λ x. x)).laws (g.met.K.Ord g.world.𝓛 g.world.𝓜 g.world.𝓡 ((λ s x. x), (λ x. x), (λ x. x), λ x. x)).matches_eq c.args.keys.now.keys (keys_of c.args.fresh.items) c.requires.distinct c.sort_by_halves.new.list.items (turned c.args.fresh.items c.sort_by_halves.new.list.items c.requires.placed c.in_ok-sort_by_halves.ensures.permutation) c.in_ok-sort_by_halves.ensures.sorted in
    let l = c.requires.few in
    omega arith

pub returns : goal.returns
returns g c = all_in_order g.K.Ord.cmp (g.met.K.Ord g.world.𝓛 g.world.𝓜 g.world.𝓡 ((λ s x. x), (λ x. x), (λ x. x), λ x. x)).total g.K.PartialEq.eq (g.met.K.TableKey g.world.𝓛 g.world.𝓜 g.world.𝓡 ((λ s x. x), (λ x. x), (λ x. x), λ x. x)).same (g.met.K.Eq g.world.𝓛 g.world.𝓜 g.world.𝓡 ((λ s x. x), (λ x. x), (λ x. x), λ x. x)).laws (g.met.K.Ord g.world.𝓛 g.world.𝓜 g.world.𝓡 ((λ s x. x), (λ x. x), (λ x. x), λ x. x)).matches_eq c.args.keys.now.keys (keys_of c.args.fresh.items) c.requires.distinct c.sort_by_halves.new.list.items (turned c.args.fresh.items c.sort_by_halves.new.list.items c.requires.placed c.in_ok-sort_by_halves.ensures.permutation) c.in_ok-sort_by_halves.ensures.sorted c.put_new.new.keys.keys c.args.keys.now.keys c.put_new.result refl c.put_new.ensures.keys c.put_new.ensures.moved
