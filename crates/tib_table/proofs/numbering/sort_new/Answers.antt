use Rattle.std.proofs.Common.{◌++◌, ◌<◌, ◌+◌, length, sym, subst, take, drop}
use Rattle.std.specs.List.Sorted.{IsPermutation}
use Rattle.tib_lex.specs.Lists.{Distinct}
use Rattle.tib_table.specs.Numbered.{keys_of}
use Rattle.tib_table.proofs.Sorting.{places, one, distinct, as_many, split_once, still_few, all_in_order}
use Rattle.tib_table.proofs.numbering.sort_new.Goals as goal

pub put_new-requires-clause-places : goal.put_new-requires-clause-places
put_new-requires-clause-places g c = places g.K.Ord.cmp g.met.K.Ord.total g.K.PartialEq.eq g.met.K.TableKey.same g.met.K.Eq.laws g.met.K.Ord.matches_eq (take c.args.first c.args.keys.now.keys) (drop c.args.first c.args.keys.now.keys) (split_once c.args.first c.args.keys.now.keys c.requires.distinct) c.sort.new.self.items (subst (λ l. IsPermutation l c.sort.new.self.items) c.in_ok-new.ensures.taken c.in_ok-sort.ensures.permutation) c.in_ok-sort.ensures.sorted

pub put_new-requires-clause-one : goal.put_new-requires-clause-one
put_new-requires-clause-one g c = one g.K.Ord.cmp g.met.K.Ord.total g.K.PartialEq.eq g.met.K.TableKey.same g.met.K.Eq.laws g.met.K.Ord.matches_eq (take c.args.first c.args.keys.now.keys) (drop c.args.first c.args.keys.now.keys) (split_once c.args.first c.args.keys.now.keys c.requires.distinct) c.sort.new.self.items (subst (λ l. IsPermutation l c.sort.new.self.items) c.in_ok-new.ensures.taken c.in_ok-sort.ensures.permutation) c.in_ok-sort.ensures.sorted

pub put_new-requires-clause-distinct : goal.put_new-requires-clause-distinct
put_new-requires-clause-distinct g c = subst (λ l. Distinct (l ++ keys_of c.sort.new.self.items)) (sym c.in_ok-new.ensures.front) (distinct g.K.Ord.cmp g.met.K.Ord.total g.K.PartialEq.eq g.met.K.TableKey.same g.met.K.Eq.laws g.met.K.Ord.matches_eq (take c.args.first c.args.keys.now.keys) (drop c.args.first c.args.keys.now.keys) (split_once c.args.first c.args.keys.now.keys c.requires.distinct) c.sort.new.self.items (subst (λ l. IsPermutation l c.sort.new.self.items) c.in_ok-new.ensures.taken c.in_ok-sort.ensures.permutation) c.in_ok-sort.ensures.sorted)

pub put_new-requires-clause-few : goal.put_new-requires-clause-few
put_new-requires-clause-few g c = subst (λ l. length l + length c.sort.new.self.items < 4294967296) (sym c.in_ok-new.ensures.front) (still_few c.args.first c.args.keys.now.keys (length c.sort.new.self.items) 4294967296 (as_many g.K.Ord.cmp g.met.K.Ord.total g.K.PartialEq.eq g.met.K.TableKey.same g.met.K.Eq.laws g.met.K.Ord.matches_eq (take c.args.first c.args.keys.now.keys) (drop c.args.first c.args.keys.now.keys) (split_once c.args.first c.args.keys.now.keys c.requires.distinct) c.sort.new.self.items (subst (λ l. IsPermutation l c.sort.new.self.items) c.in_ok-new.ensures.taken c.in_ok-sort.ensures.permutation) c.in_ok-sort.ensures.sorted) c.requires.few)

pub returns : goal.returns
returns g c = all_in_order g.K.Ord.cmp g.met.K.Ord.total g.K.PartialEq.eq g.met.K.TableKey.same g.met.K.Eq.laws g.met.K.Ord.matches_eq (take c.args.first c.args.keys.now.keys) (drop c.args.first c.args.keys.now.keys) (split_once c.args.first c.args.keys.now.keys c.requires.distinct) c.sort.new.self.items (subst (λ l. IsPermutation l c.sort.new.self.items) c.in_ok-new.ensures.taken c.in_ok-sort.ensures.permutation) c.in_ok-sort.ensures.sorted c.put_new.new.keys.keys c.take_new.new.keys.keys c.put_new.result c.in_ok-new.ensures.front c.put_new.ensures.keys c.put_new.ensures.moved
