use Rattle.std.proofs.Common.{map, take}
use Rattle.tib_hunt.specs.Numbered.{moved_to}
use Rattle.tib_hunt.specs.Rows.{numbered, read_rows}
use Rattle.tib_hunt.proofs.Settling.{Settled}
use Rattle.tib_hunt.proofs.row.settle_rows.Given as goal

abbrev pub invariant-loop-row : goal.invariant-loop-row
invariant-loop-row g l = Settled g.E.Expand.reading l.first l.moved l.fn.rules.items l.rules.items (λ at. read_rows g.E.Expand.reading.read_places (λ n. at (moved_to l.first l.moved n)) (map numbered (take l.row-index l.rows)))
