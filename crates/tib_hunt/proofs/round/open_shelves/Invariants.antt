use Rattle.std.proofs.Common.{◌≡◌, [], length, replicate, ◌≤◌}
use Rattle.std.specs.Vec.{vec_capacity}
use Rattle.tib_hunt.proofs.round.open_shelves.Given as goal

abbrev pub invariant-loop : goal.invariant-loop
invariant-loop g l =
    (l.shelves.items ≡ replicate l.counter (record { about = g.P.Problem.about l.problem; keys = [] }))
    × (length l.shelves.items ≡ l.counter)
    × (16 ≤ vec_capacity l.shelves)
