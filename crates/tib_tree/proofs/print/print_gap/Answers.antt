use Rattle.tib_tree.proofs.Writing.{joined, wrote_same}
use Rattle.std.proofs.Common.{◌∙◌}
use Rattle.tib_tree.proofs.Runs.{gap_not}
use Rattle.tib_tree.proofs.print.print_gap.Goals as goal

pub returns-in-Some : goal.returns-in-Some
returns-in-Some g c = wrote_same _ _ _ _ _ (c.in-Some.ensures ∙ gap_not c.args.above c.args.depth c.if-above-depth.false) c.print_piece-in-Some.ensures

pub returns-in-Ok : goal.returns-in-Ok
returns-in-Ok g c = joined _ _ _ _ _ _ _ _ _ c.in-Ok.is (gap_not c.args.above c.args.depth c.if-above-depth.false) c.print_closes.ensures c.print_piece-in-Ok.ensures
