use Rattle.std.proofs.Common.{◌≡◌, length, arith}
use Rattle.tib_canon.proofs.TransducerPlaces.{in_place}
use Rattle.tib_canon.proofs.transducer_taking.rules_at.Goals as goal

pub returns-then-are_in_place : goal.returns-then-are_in_place
returns-then-are_in_place c =
    let many : c.len.result ≡ length c.args.rules.items = omega (arith, c.len.ensures, c.args.rules.ok.0) in
    in_place c.args.rules.items c.args.positions.now (omega (arith, many, c.are_in_place.ensures.many c.if-are_in_place.true))
    (λ i h. c.are_in_place.ensures.each c.if-are_in_place.true i (omega (arith, many, h)))
