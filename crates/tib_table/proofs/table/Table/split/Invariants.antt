use Rattle.std.proofs.Common.{◌≡◌, take, ◌≤◌}
use Rattle.std.specs.Vec.{vec_capacity}
use Rattle.tib_table.proofs.table.Table.split.Given as goal

abbrev pub invariant-loop-at : goal.invariant-loop-at
invariant-loop-at g l =
    (l.passes.items ≡ take l.at l.initial.seats-inside.passes.items)
    × (l.seats-inside.passes.items ≡ l.initial.seats-inside.passes.items)
    × (l.seats-inside.problem ≡ l.initial.seats-inside.problem)
    × (16 ≤ vec_capacity l.passes)
