use Rattle.std.proofs.Common.{◌≡◌, ℕ, ◌<◌, List, ◌∷◌, ◌+◌, ◌∙◌, map, length, arith, ap, sym, subst}
use Rattle.std.specs.Option.{option_cmp}
use Rattle.tib_lex.specs.Lists.{Has}
use Rattle.tib_lex.proofs.Members.{each_of}
use Rattle.tib_canon.specs.Keys.{behind_fresh, AreByKeys}
use Rattle.tib_canon.proofs.One.{if_ok}
use Rattle.tib_canon.proofs.BehindFresh.{behind_by_keys, ups}
use Rattle.tib_canon.proofs.KeyOrder.{sorted_all, sorted_below, sorted_many}
use Rattle.tib_canon.proofs.numbering.states_behind_fresh.Goals as goal

pub behind_fresh_start-requires-clause-few : goal.behind_fresh_start-requires-clause-few
behind_fresh_start-requires-clause-few g c =
    let many =
    sorted_many g.K.Ord.cmp g.met.K.Ord.total g.K.PartialEq.eq g.met.K.TableKey.same g.met.K.Ord.matches_eq c.args.order.items c.len-past.result c.requires.distinct c.in_ok-keys.keys.items c.sort.new.self.items c.in_ok-keys.ensures
    c.in_ok-sort.ensures.permutation in
    omega (arith, many, ap length c.deref.ensures.value, c.requires.few)

pub behind_fresh_start-requires-clause-below : goal.behind_fresh_start-requires-clause-below
behind_fresh_start-requires-clause-below g c =
    each_of (λ k. k.2 < 4294967295) c.deref.result.now (λ m h.
    let low =
    sorted_below g.K.Ord.cmp g.met.K.Ord.total g.K.PartialEq.eq g.met.K.TableKey.same g.met.K.Ord.matches_eq c.args.order.items c.len-past.result c.requires.distinct c.in_ok-keys.keys.items c.sort.new.self.items c.in_ok-keys.ensures
    c.in_ok-sort.ensures.permutation m (subst (λ l. Has l m) c.deref.ensures.value h) in
    omega (arith, low, c.requires.few))

pub returns : goal.returns
returns g c =
    if_ok (λ v. v.items ≡ 0 ∷ map (λ k. k.2 + 1) c.deref.result.now) (λ v. AreByKeys (option_cmp g.K.Ord.cmp) (behind_fresh c.args.order.items) 0 v.items) c.behind_fresh_start.result
    (λ v e.
    subst (AreByKeys (option_cmp g.K.Ord.cmp) (behind_fresh c.args.order.items) 0) (sym (e ∙ ap (λ l. 0 ∷ map (λ k. k.2 + 1) l) c.deref.ensures.value ∙ ap (λ (ns : List ℕ). 0 ∷ ns) (ups c.sort.new.self.items)))
    (behind_by_keys g.K.Ord.cmp c.args.order.items (map (λ k. k.2) c.sort.new.self.items)
    (sorted_all g.K.Ord.cmp g.met.K.Ord.total g.K.PartialEq.eq g.met.K.TableKey.same g.met.K.Ord.matches_eq c.args.order.items c.len-past.result c.requires.distinct c.in_ok-keys.keys.items c.sort.new.self.items c.in_ok-keys.ensures
    c.in_ok-sort.ensures.permutation c.in_ok-sort.ensures.sorted (omega (arith, c.len-past.ensures, c.args.order.ok.0))))) c.behind_fresh_start.ensures
