use Rattle.std.proofs.Common.{◌≡◌, ◌++◌, List, length, ℕ}
use Rattle.tib_turn.specs.Seen.{Seen}
use Rattle.tib_table.specs.declared.problem.Entry.{Entry}
use Rattle.tib_table.proofs.Joining.{JoinedFrom}
use Rattle.tib_table.proofs.table.Table.join.Given as goal

abbrev pub invariant-loop-other : goal.invariant-loop-other
invariant-loop-other g l =
    ((rest : List (Seen (Entry (g.row.P-Data.Denot × ℕ) g.row.P-Key.Denot))) × (l.initial.others.items ≡ l.others.items ++ rest))
    × JoinedFrom (length l.others.items) l.initial.seats-inside.passes.items l.initial.others.items l.seats-inside.passes.items
    × (l.seats-inside.problem ≡ l.initial.seats-inside.problem)
    × (length l.seats-inside.passes.items ≡ 16)

abbrev pub decreases-loop-other : goal.decreases-loop-other
decreases-loop-other g l = length l.others.items
