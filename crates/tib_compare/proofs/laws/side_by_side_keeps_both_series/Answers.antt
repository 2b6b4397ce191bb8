use Rattle.tib_compare.proofs.Sides.{keep_both}
use Rattle.tib_compare.proofs.laws.side_by_side_keeps_both_series.Goals as goal

pub returns : goal.returns
returns c = keep_both
