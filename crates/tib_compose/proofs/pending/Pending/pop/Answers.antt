use Rattle.std.proofs.Common.{◌≡◌, ◌<◌, ◌-◌, ◌≤◌, List, length, arith, refl, sym, ap, ◌∙◌, subst}
use Rattle.std.proofs.lemmas.Bool.Decides.{nat_tests}
use Rattle.tib_lex.proofs.Members.{each_at}
use Rattle.tib_compose.specs.Pending.{IsNodeBelow, task_at, Stands}
use Rattle.tib_compose.specs.declared.pending.PendingPiece.{PendingPiece}
use Rattle.tib_compose.proofs.Left.{none_left, one_left, next_left, beyond}
use Rattle.tib_compose.proofs.pending.Pending.pop.Goals.{then-rest-last, else-rest-last}
use Rattle.tib_compose.proofs.pending.Pending.pop.Goals as goal

pub returns-then-self-eq0 : goal.returns-then-self-eq0
returns-then-self-eq0 c = (refl, λ product two pairs ws h. none_left product two pairs c.args.self.now.tasks.items ws c.args.self.now.next c.if-self-eq0.true h)

pub returns-in_default : goal.returns-in_default
returns-in_default c = (
  refl,
  λ product two pairs ws h.
      absurd (one_left product two pairs c.args.self.now.tasks.items ws c.args.self.now.next (omega (arith, c.if-self-eq0.false))
      (beyond c.deref.result.now c.args.self.now.tasks.items (c.args.self.now.next - 1) c.deref.ensures.value c.in_default.ensures.lookup.0) h),
)

pub returns : goal.returns
returns c =
    let some : 0 < c.args.self.now.next = omega (arith, c.if-self-eq0.false) in
    let at : c.in-Some.task.now ≡ task_at c.args.self.now.tasks.items (c.args.self.now.next - 1) = c.in-Some.ensures.lookup.3.1 _ ∙ ap (λ ts. task_at ts (c.args.self.now.next - 1)) c.deref.ensures.value in (
      refl,
      elim c.if-rest-last.branch [
        | then-rest-last w ↦ omega (arith, w.if-rest-last, w.self-is, some)
        | else-rest-last w ↦ omega (arith, w.self-is, some)
      ],
      λ product two pairs ws h.
          let n = next_left product two pairs c.args.self.now.tasks.items ws c.args.self.now.next c.in-Some.task.now some at h in
          let same : c.in-Some.task.now.rest ≡ c.if-rest-last.self = elim c.if-rest-last.branch [
            | then-rest-last w ↦ sym w.self-is
            | else-rest-last w ↦ omega (arith, w.if-rest-last, w.self-is, n.2)
          ]
          in
          (n.0, n.1, subst (λ k. Stands product two pairs c.args.self.now.tasks.items k n.0) same n.4),
      λ n below.
          let low : c.args.self.now.next - 1 < length c.args.self.now.tasks.items = subst (λ (ts : List PendingPiece). c.args.self.now.next - 1 < length ts) c.deref.ensures.value c.in-Some.ensures.lookup.3.0 in
          subst (λ (t : PendingPiece). IsNodeBelow n t.piece) (sym at) (each_at (λ (t : PendingPiece). IsNodeBelow n t.piece) c.args.self.now.tasks.items (c.args.self.now.next - 1) _ below low),
    )
