use Rattle.std.proofs.Common.{refl}
use Rattle.tib_tree.proofs.Writing.{stopped}
use Rattle.tib_tree.proofs.Runs.{closes_split}
use Rattle.tib_tree.proofs.print.print_closes.Goals as goal

pub returns-in-Err : goal.returns-in-Err
returns-in-Err g c = stopped _ _ _ _ _ _ _ _ _ _ _ c.in-Err.is refl (closes_split c.loop-done.done c.args.count c.loop-done-test.true) c.loop-done.invariant.wrote c.print_piece.ensures
