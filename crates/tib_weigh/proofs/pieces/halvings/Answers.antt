use Rattle.std.proofs.Common.{◌<◌, arith}
use Rattle.tib_weigh.proofs.Halving.{within_log, pieces_within}
use Rattle.tib_weigh.proofs.pieces.halvings.Goals.{in-Ok, in-Err}
use Rattle.tib_weigh.proofs.pieces.halvings.Goals as goal

pub returns : goal.returns
returns g c =
    let some : 0 < c.match-available_parallelism.processors = elim c.match-available_parallelism.branch [ in-Ok w ↦ omega (arith, w.processors-is, w.get-processors.ensures.nonzero) | in-Err w ↦ omega (arith, w.processors-is) ] in
    let four = pieces_within c.match-available_parallelism.processors c.min.result c.saturating_mul.result some c.min.ensures c.saturating_mul.ensures in
    within_log c.saturating_mul.result c.ilog2.result four.0 four.1 c.ilog2.ensures.power_le c.ilog2.ensures.next_power_gt
