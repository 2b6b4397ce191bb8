use Rattle.std.proofs.Common.{ℕ, ◌≡◌, arith, [], ◌∷◌, List, length, length-append, reverse, sym, ap, subst, append-nil}
use Rattle.std.specs.List.{AllZip}
use Rattle.tib_table.specs.Kept.{Kept}
use Rattle.tib_table.specs.Seated.{Closes}
use Rattle.tib_table.proofs.Closing.{close_step, locks_less, out_less}
use Rattle.tib_table.proofs.turns.close_locks.Goals as goal

pub loop-lock-init : goal.loop-lock-init
loop-lock-init g c = (
  (
    [],
    sym (append-nil c.args.passes.items),
    subst (λ (ks : List (Kept (g.row.P-Data.Denot × ℕ) g.row.P-Key.Denot)). AllZip (Closes (λ x k. g.P.Problem.may_hold x.0 k × (g.P.Key.TableKey.shelf_of k ≡ x.1)) g.P.Key.PartialEq.eq) [] (reverse ks)) (sym c.requires.room.0) tt,
  ),
  c.requires.locks,
  c.requires.outside,
  (let r = ap length c.requires.room.0 in let k = c.requires.room.1 in omega arith),
)

pub close_lock-requires-clause-lock : goal.close_lock-requires-clause-lock
close_lock-requires-clause-lock g c =
    (locks_less c.loop-lock.passes.items c.pop-in-Some.new.self.items c.in-Some-pop.pass c.loop-lock.locks.items c.pop.new.self.items c.in-Some.lock c.in-Some-pop.ensures.items c.in-Some.ensures.items c.loop-lock.invariant.1).1

pub close_lock-requires-clause-outside : goal.close_lock-requires-clause-outside
close_lock-requires-clause-outside g c = (out_less c.loop-lock.passes.items c.pop-in-Some.new.self.items c.in-Some-pop.pass c.in-Some-pop.ensures.items c.loop-lock.invariant.2).1

pub loop-lock-preserved : goal.loop-lock-preserved
loop-lock-preserved g c =
    let p = c.push_reserved.ensures in
    let i = c.loop-lock.invariant in (
      close_step (λ x k. g.P.Problem.may_hold x.0 k × (g.P.Key.TableKey.shelf_of k ≡ x.1)) g.P.Key.PartialEq.eq c.args.passes.items c.loop-lock.passes.items c.pop-in-Some.new.self.items i.0.0 c.loop-lock.room.items c.push_reserved.new.self.items c.in-Some-pop.pass c.close_lock.result i.0.1 c.in-Some-pop.ensures.items p.items i.0.2 c.close_lock.ensures,
      (locks_less c.loop-lock.passes.items c.pop-in-Some.new.self.items c.in-Some-pop.pass c.loop-lock.locks.items c.pop.new.self.items c.in-Some.lock c.in-Some-pop.ensures.items c.in-Some.ensures.items i.1).0,
      (out_less c.loop-lock.passes.items c.pop-in-Some.new.self.items c.in-Some-pop.pass c.in-Some-pop.ensures.items i.2).0,
      (
          let a = ap length p.items in
          let b = length-append c.loop-lock.room.items (c.close_lock.result ∷ []) in
          let d = ap length c.in-Some.ensures.items in
          let e = length-append c.pop.new.self.items (c.in-Some.lock ∷ []) in
          let f = p.capacity in
          let h = i.3 in
          omega arith
          ),
    )
