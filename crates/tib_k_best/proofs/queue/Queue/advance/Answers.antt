use Rattle.std.specs.Prelude.{◌≡◌}
use Rattle.std.proofs.Common.{arith, subst, sym, ◌++◌, ◌∷◌, []}
use Rattle.tib_k_best.specs.QueueOf.{QueueOf, waiting_at}
use Rattle.tib_k_best.specs.Queues.{IsQueue, IsWaiting}
use Rattle.tib_k_best.specs.declared.queue.Waiting.{Waiting}
use Rattle.tib_k_best.proofs.Beginning.{queue_on_ok}
use Rattle.tib_k_best.proofs.Queueing.{waits, with_waiting}
use Rattle.tib_k_best.proofs.queue.Queue.advance.Goals as goal

pub returns-clause-queue : goal.returns-clause-queue
returns-clause-queue g c =
    let a : Waiting = record { rule = c.args.rule; place = c.next_missing-place.result } in
    let is : IsWaiting c.args.lists.now c.state-state.result a = record {
      rule = c.requires.rule;
      place = omega (arith, c.if-place-count.false, c.count.ensures.many);
      state = sym c.state-state.ensures.same;
      before = c.next_missing-place.ensures.before;
    } in
    queue_on_ok c.wait.result _ _
    (λ (e : c.wait.new.self ≡ with_waiting c.args.self.now c.state-state.result (waiting_at c.args.self.now c.state-state.result ++ a ∷ [])) out queue.
    subst (λ (w : QueueOf). IsQueue g.S.Semiring.product c.args.lists.now w out) (sym e)
    (waits g.S.Semiring.product c.args.lists.now c.args.self.now c.state-state.result a out queue (omega (arith, c.state-state.ensures.there, c.requires.queue.1.long)) is))
    c.wait.ensures
