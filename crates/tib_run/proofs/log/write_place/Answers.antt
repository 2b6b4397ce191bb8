use Rattle.std.proofs.Common.{◌≡◌, ◌++◌, ap, refl, ℕ}
use Rattle.std.specs.Prelude.{decimal}
use Rattle.tib_io.specs.Writing.{joined, cut_off}
use Rattle.tib_run.proofs.log.write_place.Goals as goal

pub returns-in-Ok : goal.returns-in-Ok
returns-in-Ok g c =
    let behind = decimal c.args.line ++ c.args.c.now ++ c.args.d.now in
    let same : (c.args.a.now ++ decimal c.from.result ++ c.args.b.now) ++ behind ≡ (c.args.a.now ++ decimal c.args.file ++ c.args.b.now) ++ behind = ap (λ (n : ℕ). (c.args.a.now ++ decimal n ++ c.args.b.now) ++ behind) c.from.ensures in
    joined _ _ _ _ _ _ _ _ _ c.in-Ok.is same c.write_about.ensures c.write_behind.ensures

pub returns-in-Err : goal.returns-in-Err
returns-in-Err g c =
    let behind = decimal c.args.line ++ c.args.c.now ++ c.args.d.now in
    let same : (c.args.a.now ++ decimal c.from.result ++ c.args.b.now) ++ behind ≡ (c.args.a.now ++ decimal c.args.file ++ c.args.b.now) ++ behind = ap (λ (n : ℕ). (c.args.a.now ++ decimal n ++ c.args.b.now) ++ behind) c.from.ensures in
    cut_off _ _ _ behind _ _ _ _ _ c.in-Err.is refl same c.write_about.ensures
