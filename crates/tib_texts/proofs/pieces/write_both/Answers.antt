use Rattle.std.proofs.Common.{refl}
use Rattle.tib_io.specs.Writing.{joined, cut_off}
use Rattle.tib_texts.proofs.pieces.write_both.Goals as goal

pub returns-in-Ok : goal.returns-in-Ok
returns-in-Ok g c = joined _ _ _ _ _ _ _ _ _ c.in-Ok.is refl c.write_piece.ensures c.write_piece-in-Ok.ensures

pub returns-in-Err : goal.returns-in-Err
returns-in-Err g c = cut_off _ _ _ c.args.second.now _ _ _ _ _ c.in-Err.is refl refl c.write_piece.ensures
