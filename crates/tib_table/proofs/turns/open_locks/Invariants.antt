use Rattle.std.proofs.Common.{◌≡◌, length, ◌≤◌}
use Rattle.std.specs.Vec.{vec_capacity}
use Rattle.tib_table.specs.Seated.{AreOpened}
use Rattle.tib_table.proofs.turns.open_locks.Given as goal

abbrev pub invariant-loop-shelf : goal.invariant-loop-shelf
invariant-loop-shelf g l =
    AreOpened (g.P.Problem.about l.problem) l.shelf l.locks.items l.passes.items
    × (length l.passes.items ≡ l.shelf)
    × (16 ≤ vec_capacity l.locks)
    × (16 ≤ vec_capacity l.passes)
