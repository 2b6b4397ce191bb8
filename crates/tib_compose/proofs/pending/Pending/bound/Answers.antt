use Rattle.std.proofs.Common.{◌≡◌, ◌<◌, ◌-◌, length, arith, refl, sym, ap, ◌∙◌, subst}
use Rattle.tib_compose.specs.Pending.{task_at}
use Rattle.tib_compose.specs.declared.pending.PendingPiece.{PendingPiece}
use Rattle.tib_compose.proofs.Left.{next_left, none_left, none_bounds, one_left}
use Rattle.tib_compose.proofs.pending.Pending.bound.Goals as goal

pub returns-in-Some : goal.returns-in-Some
returns-in-Some c = λ product two pairs ws h.
    let at : c.in-Some.task.now ≡ task_at c.args.self.now.tasks.items (c.args.self.now.next - 1) = c.in-Some.ensures.lookup.3.1 _ ∙ ap (λ ts. task_at ts (c.args.self.now.next - 1)) c.deref.ensures.value in
    (next_left product two pairs c.args.self.now.tasks.items ws c.args.self.now.next c.in-Some.task.now (omega (arith, c.if-self-eq0.false)) at h).3
