use Rattle.std.proofs.Common.{◌≡◌, map}
use Rattle.tib_canon.specs.Keys.{AreByKeys}
use Rattle.tib_canon.proofs.One.{if_ok}
use Rattle.tib_canon.proofs.KeyOrder.{sorted_by_keys}
use Rattle.tib_canon.proofs.numbering.states_by_keys.Goals as goal

pub returns : goal.returns
returns g c =
    if_ok (λ v. v.items ≡ map (λ k. k.2) c.deref.result.now) (λ v. AreByKeys g.K.Ord.cmp c.args.order.items c.args.start v.items) c.positions_of.result
    (λ v e.
    sorted_by_keys g.K.Ord.cmp g.met.K.Ord.total g.K.PartialEq.eq g.met.K.TableKey.same g.met.K.Ord.matches_eq c.args.order.items c.args.start c.requires.distinct c.requires.start c.in_ok-keys.keys.items c.sort.new.self.items c.in_ok-keys.ensures c.in_ok-sort.ensures.permutation c.in_ok-sort.ensures.sorted
    c.deref.result.now c.deref.ensures.value v.items e) c.positions_of.ensures
