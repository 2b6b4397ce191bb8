use Rattle.std.specs.Prelude.{◌≡◌, ℕ, ◌<◌, ◌≤◌, [], length}
use Rattle.tib_ranked_trees.specs.Held.{list_of}
use Rattle.tib_k_best.specs.QueueOf.{waiting_at}
use Rattle.tib_k_best.specs.Queues.{IsQueue, StaysSame, left_over}
use Rattle.tib_k_best.proofs.queue.Queue.release.Given as goal

abbrev pub invariant-loop-item : goal.invariant-loop-item
invariant-loop-item g l =
    IsQueue g.S.Semiring.product l.lists l.self []
    × StaysSame l.initial.lists l.lists
    × (left_over l.self ≤ left_over l.initial.self)
    × ((p : ℕ) → (p ≡ l.state → ⊥) → 0 < length (list_of l.initial.lists p) → waiting_at l.self p ≡ waiting_at l.initial.self p)

abbrev pub decreases-loop-item : goal.decreases-loop-item
decreases-loop-item g l = length (waiting_at l.self l.state)
