use Rattle.std.proofs.Common.{◌+◌, length, map}
use Rattle.std.specs.Vec.Iter.{into_iter_items}
use Rattle.tib_hunt.specs.Rows.{IsRowBelow}
use Rattle.tib_hunt.specs.Known.{AreOn}
use Rattle.tib_hunt.specs.Shelved.{placed_row}
use Rattle.tib_table.proofs.Placed.{rest_next}
use Rattle.tib_hunt.proofs.Settling.{rows_more, each_back, each_next}
use Rattle.tib_hunt.proofs.placing.place_rows.Goals as goal

pub place_row-requires : goal.place_row-requires
place_row-requires g c = record {
  on = each_next (λ row. AreOn (map (λ v. v.items) c.args.positions.now.on_shelves.now) row.rules.at row.ends.items) c.args.rows.items c.loop-row.yielded (into_iter_items c.loop-row.row-iterator) c.in-Some.row (into_iter_items c.next.new.self) c.requires.on c.loop-row.invariant.0 c.in-Some.ensures.steps.0;
  below = each_next (λ row. IsRowBelow g.E.Expand.reading.places c.args.positions.now.first (c.args.positions.now.first + length c.args.positions.now.moved.now) (placed_row (map (λ v. v.items) c.args.positions.now.on_shelves.now) row)) c.args.rows.items c.loop-row.yielded (into_iter_items c.loop-row.row-iterator) c.in-Some.row (into_iter_items c.next.new.self)
      (each_back (IsRowBelow g.E.Expand.reading.places c.args.positions.now.first (c.args.positions.now.first + length c.args.positions.now.moved.now)) (placed_row (map (λ v. v.items) c.args.positions.now.on_shelves.now)) c.args.rows.items c.requires.below) c.loop-row.invariant.0 c.in-Some.ensures.steps.0;
}

pub loop-row-preserved : goal.loop-row-preserved
loop-row-preserved g c = (
  rest_next c.loop-row.yielded (into_iter_items c.loop-row.row-iterator) c.in-Some.row (into_iter_items c.next.new.self) c.args.rows.items c.loop-row.invariant.0 c.in-Some.ensures.steps.0,
  rows_more g.E.Expand.reading c.args.positions.now.first c.args.positions.now.moved.now (placed_row (map (λ v. v.items) c.args.positions.now.on_shelves.now)) c.args.rules.now.items c.loop-row.rules.items c.place_row.new.rules.items c.loop-row.yielded c.in-Some.row c.loop-row.invariant.1 (record { read = c.in_ok-place_row.ensures.read; below = c.in_ok-place_row.ensures.below }),
)
