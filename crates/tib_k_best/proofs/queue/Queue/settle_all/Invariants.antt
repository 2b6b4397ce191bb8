use Rattle.std.specs.Prelude.{◌≡◌, length}
use Rattle.tib_k_best.specs.Queues.{left_over, IsSettled}
use Rattle.tib_k_best.proofs.queue.Queue.settle_all.Given as goal

abbrev pub invariant-loop-candidate : goal.invariant-loop-candidate
invariant-loop-candidate g l =
    IsSettled g.S.Semiring.product l.lists l.self
    × (l.lists.rules ≡ l.initial.lists.rules)
    × (l.lists.labels ≡ l.initial.lists.labels)
    × (length l.lists.lists ≡ length l.initial.lists.lists)

abbrev pub decreases-loop-candidate : goal.decreases-loop-candidate
decreases-loop-candidate g l = left_over l.self
