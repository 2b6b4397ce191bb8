use Rattle.std.proofs.Common.{length-append, refl, arith}
use Rattle.tib_table.specs.Numbered.{keys_of}
use Rattle.tib_table.proofs.Sorting.{places, one, distinct, as_many, all_in_order}
use Rattle.tib_table.proofs.FreshKeys.{turned}
use Rattle.tib_table.proofs.fresh.put_fresh.Goals as goal

pub put_new-requires-clause-places : goal.put_new-requires-clause-places
put_new-requires-clause-places g c = places g.K.Ord.cmp g.met.K.Ord.total g.K.PartialEq.eq g.met.K.TableKey.same g.met.K.Eq.laws g.met.K.Ord.matches_eq c.args.keys.now.keys (keys_of c.args.fresh.items) c.requires.distinct c.sort.new.self.items (turned c.args.fresh.items c.sort.new.self.items c.requires.placed c.in_ok-sort.ensures.permutation) c.in_ok-sort.ensures.sorted

pub put_new-requires-clause-one : goal.put_new-requires-clause-one
put_new-requires-clause-one g c = one g.K.Ord.cmp g.met.K.Ord.total g.K.PartialEq.eq g.met.K.TableKey.same g.met.K.Eq.laws g.met.K.Ord.matches_eq c.args.keys.now.keys (keys_of c.args.fresh.items) c.requires.distinct c.sort.new.self.items (turned c.args.fresh.items c.sort.new.self.items c.requires.placed c.in_ok-sort.ensures.permutation) c.in_ok-sort.ensures.sorted

pub put_new-requires-clause-distinct : goal.put_new-requires-clause-distinct
put_new-requires-clause-distinct g c = distinct g.K.Ord.cmp g.met.K.Ord.total g.K.PartialEq.eq g.met.K.TableKey.same g.met.K.Eq.laws g.met.K.Ord.matches_eq c.args.keys.now.keys (keys_of c.args.fresh.items) c.requires.distinct c.sort.new.self.items (turned c.args.fresh.items c.sort.new.self.items c.requires.placed c.in_ok-sort.ensures.permutation) c.in_ok-sort.ensures.sorted

pub put_new-requires-clause-few : goal.put_new-requires-clause-few
put_new-requires-clause-few g c =
    let a = length-append c.args.keys.now.keys (keys_of c.args.fresh.items) in
    let m = as_many g.K.Ord.cmp g.met.K.Ord.total g.K.PartialEq.eq g.met.K.TableKey.same g.met.K.Eq.laws g.met.K.Ord.matches_eq c.args.keys.now.keys (keys_of c.args.fresh.items) c.requires.distinct c.sort.new.self.items (turned c.args.fresh.items c.sort.new.self.items c.requires.placed c.in_ok-sort.ensures.permutation) c.in_ok-sort.ensures.sorted in
    let l = c.requires.few in
    omega arith

pub returns : goal.returns
returns g c = all_in_order g.K.Ord.cmp g.met.K.Ord.total g.K.PartialEq.eq g.met.K.TableKey.same g.met.K.Eq.laws g.met.K.Ord.matches_eq c.args.keys.now.keys (keys_of c.args.fresh.items) c.requires.distinct c.sort.new.self.items (turned c.args.fresh.items c.sort.new.self.items c.requires.placed c.in_ok-sort.ensures.permutation) c.in_ok-sort.ensures.sorted c.put_new.new.keys.keys c.args.keys.now.keys c.put_new.result refl c.put_new.ensures.keys c.put_new.ensures.moved
