use Rattle.std.specs.Prelude.{◌≤◌, length}
use Rattle.tib_k_best.specs.Queues.{rules_before, IsQueue, StaysSame}
use Rattle.tib_k_best.proofs.queue.Queue.start.Given as goal

abbrev pub invariant-loop-rest : goal.invariant-loop-rest
invariant-loop-rest g l =
    (l.rest ≤ length l.initial.lists.rules) × IsQueue g.S.Semiring.product l.lists l.self (rules_before l.rest) × StaysSame l.initial.lists l.lists

abbrev pub decreases-loop-rest : goal.decreases-loop-rest
decreases-loop-rest g l = l.rest
