use Rattle.std.proofs.Common.{◌+◌, length}
use Rattle.tib_hunt.specs.Rows.{numbered, IsRowBelow}
use Rattle.tib_hunt.proofs.Settling.{rows_next, each_made}
use Rattle.tib_hunt.proofs.row.settle_rows.Goals as goal

pub settle_row-requires : goal.settle_row-requires
settle_row-requires g c = record {
  below = each_made (IsRowBelow g.E.Expand.reading.places c.args.first (c.args.first + length c.args.moved.now)) numbered c.args.rows.now c.loop-row.row-index c.row-item.result c.requires.below c.loop-row-test.true c.row-item.is;
}

pub loop-row-preserved : goal.loop-row-preserved
loop-row-preserved g c = rows_next g.E.Expand.reading c.args.first c.args.moved.now numbered c.args.rules.now.items c.loop-row.rules.items c.settle_row.new.rules.items c.args.rows.now c.loop-row.row-index c.row-item.result c.loop-row-test.true c.row-item.is c.loop-row.invariant (record { read = c.in_ok-settle_row.ensures.read; below = c.in_ok-settle_row.ensures.below })
