use Rattle.std.proofs.Common.{◌≡◌, ◌++◌, refl}
use Rattle.std.specs.Prelude.{decimal}
use Rattle.tib_io.specs.Writing.{joined, cut_off}
use Rattle.tib_run.proofs.log.write_behind.Goals as goal

pub returns-in-Ok : goal.returns-in-Ok
returns-in-Ok g c =
    let same : c.as_bytes.result.now ++ c.args.first.now ++ c.args.second.now ≡ decimal c.args.number ++ c.args.first.now ++ c.args.second.now = cc (c.as_bytes.ensures.value, c.format.ensures.text) in
    joined _ _ _ _ _ _ _ _ _ c.in-Ok.is same c.write_both.ensures c.write_piece.ensures

pub returns-in-Err : goal.returns-in-Err
returns-in-Err g c =
    let same : c.as_bytes.result.now ++ c.args.first.now ++ c.args.second.now ≡ decimal c.args.number ++ c.args.first.now ++ c.args.second.now = cc (c.as_bytes.ensures.value, c.format.ensures.text) in
    cut_off _ _ _ c.args.second.now _ _ _ _ _ c.in-Err.is refl same c.write_both.ensures
