use Rattle.std.proofs.Common.{length, ◌-◌, ◌<◌, ◌≤◌, ◌≡◌}
use Rattle.tib_grammar.specs.ShapeBuckets.{lists_of}
use Rattle.tib_normal.specs.Arranging.{row_at, IsArranging}
use Rattle.tib_normal.proofs.rows.list_state.Given as goal

abbrev pub invariant-loop-n : goal.invariant-loop-n
invariant-loop-n l = record {
  within : l.n ≤ length l.rows;
  own : l.n < length l.rows → (row_at l.rows l.n).state ≡ l.state;
  arranging : IsArranging (lists_of l.sides.table.keys) l.rows l.state l.n l.rules.items;
}

abbrev pub decreases-loop-n : goal.decreases-loop-n
decreases-loop-n l = length l.rows - l.n
