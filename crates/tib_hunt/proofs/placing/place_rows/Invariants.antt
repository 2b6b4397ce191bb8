use Rattle.std.proofs.Common.{◌≡◌, ◌++◌, map}
use Rattle.std.specs.Vec.Iter.{into_iter_items}
use Rattle.tib_hunt.specs.Numbered.{moved_to}
use Rattle.tib_hunt.specs.Rows.{read_rows}
use Rattle.tib_hunt.specs.Shelved.{placed_row}
use Rattle.tib_hunt.proofs.Settling.{Settled}
use Rattle.tib_hunt.proofs.placing.place_rows.Given as goal

abbrev pub invariant-loop-row : goal.invariant-loop-row
invariant-loop-row g l =
    (l.fn.rows.items ≡ l.yielded ++ into_iter_items l.row-iterator)
    × Settled g.E.Expand.reading l.positions.first l.positions.moved.now l.fn.rules.items l.rules.items (λ at. read_rows g.E.Expand.reading.read_places (λ n. at (moved_to l.positions.first l.positions.moved.now n)) (map (placed_row (map (λ v. v.items) l.positions.on_shelves.now)) l.yielded))
