use Rattle.std.proofs.Common.{ℕ, ◌≡◌, ◌++◌, ◌+◌, ◌≤◌, List, length, map, reverse, false}
use Rattle.std.specs.List.{All, AllZip}
use Rattle.std.specs.Vec.{vec_capacity}
use Rattle.tib_turn.specs.Seen.{Seen}
use Rattle.tib_table.specs.Seated.{lock_of, Closes}
use Rattle.tib_table.specs.declared.problem.Entry.{Entry}
use Rattle.tib_table.proofs.turns.close_locks.Given as goal

abbrev pub invariant-loop-lock : goal.invariant-loop-lock
invariant-loop-lock g l =
    ((rest : List (Seen (Entry (g.row.P-Data.Denot × ℕ) g.row.P-Key.Denot))) × (l.initial.passes.items ≡ l.passes.items ++ rest) × AllZip (Closes (λ x k. g.P.Problem.may_hold x.0 k × (g.P.Key.TableKey.shelf_of k ≡ x.1)) g.P.Key.PartialEq.eq) rest (reverse l.room.items))
    × (map lock_of l.passes.items ≡ l.locks.items)
    × All (λ (s : Seen (Entry (g.row.P-Data.Denot × ℕ) g.row.P-Key.Denot)). s.inside ≡ false) l.passes.items
    × (length l.room.items + length l.locks.items ≤ vec_capacity l.room)

abbrev pub decreases-loop-lock : goal.decreases-loop-lock
decreases-loop-lock g l = length l.locks.items
