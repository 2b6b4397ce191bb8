use Rattle.std.proofs.Common.{◌≡◌}
use Rattle.tib_workers.specs.Hands.{IsHand}
use Rattle.tib_workers.proofs.work.work.Given as goal

abbrev pub invariant-loop : goal.invariant-loop
invariant-loop g l = IsHand g.P.Task.gives g.P.Task.count_of g.P.Task.is_ready (g.P.Problem.about l.task) l.table l.items l.hand.share l.hand.rows.items l.hand.left l.hand.going l.hand.seat l.hand.seats × (l.hand.share ≡ l.fn.hand.share)
