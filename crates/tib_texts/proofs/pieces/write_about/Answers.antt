use Rattle.std.proofs.Common.{◌≡◌, ◌++◌, refl}
use Rattle.std.specs.Prelude.{decimal}
use Rattle.tib_io.specs.Writing.{joined, cut_off}
use Rattle.tib_texts.proofs.pieces.write_about.Goals as goal

pub returns-in-Ok : goal.returns-in-Ok
returns-in-Ok g c =
    let same : c.args.first.now ++ c.as_bytes.result.now ++ c.args.last.now ≡ c.args.first.now ++ decimal c.args.number ++ c.args.last.now = cc (c.as_bytes.ensures.value, c.format.ensures.text) in
    joined _ _ _ _ _ _ _ _ _ c.in-Ok.is same c.write_both.ensures c.write_piece.ensures

pub returns-in-Err : goal.returns-in-Err
returns-in-Err g c =
    let same : c.args.first.now ++ c.as_bytes.result.now ++ c.args.last.now ≡ c.args.first.now ++ decimal c.args.number ++ c.args.last.now = cc (c.as_bytes.ensures.value, c.format.ensures.text) in
    cut_off _ _ _ c.args.last.now _ _ _ _ _ c.in-Err.is refl same c.write_both.ensures
