use Rattle.std.proofs.Common.{◌+◌, arith}
use Rattle.tib_hunt.proofs.GatheredRows.{parts_more, parts_fit}
use Rattle.tib_hunt.proofs.worker_round.count_parts.Goals as goal

pub overflow_add-made : goal.overflow_add-made
overflow_add-made g c =
    let m = parts_more c.args.rows.now c.loop-row.row-index c.row-item.result c.loop-row-test.true c.row-item.is in
    let f = parts_fit c.args.rows.now (c.loop-row.row-index + 1) in
    let i = c.loop-row.invariant in
    let r = c.requires in
    record { fits = omega arith }

pub loop-row-preserved : goal.loop-row-preserved
loop-row-preserved g c =
    let m = parts_more c.args.rows.now c.loop-row.row-index c.row-item.result c.loop-row-test.true c.row-item.is in
    let i = c.loop-row.invariant in
    omega arith
