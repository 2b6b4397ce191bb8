use Rattle.std.proofs.Common.{◌≤◌, ◌+◌, ◌∙◌, sym, ap, subst, length, length-append, [], ◌∷◌}
use Rattle.tib_table.proofs.Passes.{opened_push}
use Rattle.tib_table.proofs.turns.open_locks.Goals as goal

pub loop-shelf-preserved : goal.loop-shelf-preserved
loop-shelf-preserved g c =
    let p = c.push_reserved.ensures in
    let q = c.push_reserved-in-loop-shelf.ensures in
    let i = c.loop-shelf.invariant in (
      opened_push (g.P.Problem.about c.args.problem) c.loop-shelf.shelf c.loop-shelf.locks.items c.push_reserved.new.self.items c.loop-shelf.passes.items c.push_reserved-in-loop-shelf.new.self.items c.in_ok-lock.lock c.in_ok-lock.pass p.items q.items c.in_ok-lock.ensures i.0,
      ap length q.items ∙ length-append c.loop-shelf.passes.items (c.in_ok-lock.pass ∷ []) ∙ ap (λ n. n + 1) i.1,
      subst (λ n. 16 ≤ n) (sym p.capacity) i.2,
      subst (λ n. 16 ≤ n) (sym q.capacity) i.3,
    )
