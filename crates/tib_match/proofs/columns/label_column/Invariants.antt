use Rattle.std.proofs.Common.{◌≡◌, length, take}
use Rattle.tib_match.specs.Boxes.{IsColumn, column_of, stack_of}
use Rattle.tib_match.proofs.columns.label_column.Given as goal

abbrev pub invariant-loop-position : goal.invariant-loop-position
invariant-loop-position g l = record {
  long : length l.costs.items ≡ length l.normal.names;
  column : IsColumn g.S.Semiring.product l.normal.rules (take l.position-index l.position-items) (stack_of l.below) (column_of l.costs.items);
}
