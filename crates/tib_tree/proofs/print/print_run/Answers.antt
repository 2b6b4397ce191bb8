use Rattle.std.proofs.Common.{sym}
use Rattle.tib_tree.proofs.Writing.{joined}
use Rattle.tib_tree.proofs.print.print_run.Goals as goal

pub returns-in-Ok : goal.returns-in-Ok
returns-in-Ok g c = joined _ _ _ _ _ _ _ _ _ c.in-Ok.is (sym c.requires.run) c.print_backslash.ensures c.print_piece.ensures
