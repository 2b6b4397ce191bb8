use Rattle.std.proofs.Common.{◌≡◌, ◌<◌, ℕ, length, get_or}
use Rattle.tib_weigh.specs.Tables.{IsTable}
use Rattle.tib_weigh.specs.declared.table.Table.{Table}
use Rattle.tib_weigh.proofs.index.tables_of.Given as goal

abbrev pub invariant-loop-place : goal.invariant-loop-place
invariant-loop-place l = record {
  long : length l.tables.items ≡ l.place;
  each : (j : ℕ) (t : Table) → j < l.place → t ≡ get_or l.tables.items j t → IsTable l.rules l.rank l.positions j t;
}
