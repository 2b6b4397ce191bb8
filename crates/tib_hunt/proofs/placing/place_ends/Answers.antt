use Rattle.std.proofs.Common.{◌+◌, ◌<◌, length, map, arith}
use Rattle.tib_hunt.specs.Known.{position_on}
use Rattle.tib_hunt.proofs.Settling.{each_made}
use Rattle.tib_hunt.proofs.placing.place_ends.Goals as goal

pub move_end-requires : goal.move_end-requires
move_end-requires c =
    let l = each_made (λ n. n < c.args.first + length c.args.moved.now) (position_on (map (λ v. v.items) c.args.positions.now)) c.args.ends.now c.loop-number.number-index c.number-item.result c.requires.below c.loop-number-test.true c.number-item.is in
    let e = c.place_end.ensures in
    omega arith
