use Rattle.std.proofs.Common.{rules, arith}
use Rattle.tib_workers.proofs.Handing.{split_small, split_more}
use Rattle.tib_workers.proofs.crew.+crew+fn-crew-join+arg3.Goals as goal

pub join-one-requires-after_bounds : goal.join-one-requires-after_bounds
join-one-requires-after_bounds g t c κs within =
    let small = split_small c.args.others c.args.hand.seat.shares c.args.hand.share c.args.items.now.count c.args.hand.going c.requires.others in
    let s = c.in_ok-theirs.ensures in
    let more = split_more c.args.others c.args.hand.seat.shares c.args.hand.share c.args.items.now.count c.args.hand.going c.requires.others c.if-others-eq0.false c.split.new.hand.seat.shares c.split.new.hand.share c.split.new.hand.going s.going.0 s.going.1 s.share in
    let l = s.as_large in
    let f = c.requires.others.few in
    let some = c.if-others-eq0.false in (
      (s.other, omega arith, f),
      (
        search rules,
        (
          (λ a m. m),
          (
            (λ a m. m),
            (
              (λ a m. m),
              (
                (λ a m. m),
                (
                  (λ a m. m),
                  (
                    (search rules, search rules, search rules, search rules, search rules, search rules, s.hand, omega arith, more),
                    (search rules, search rules, search rules, search rules, search rules, search rules),
                  ),
                ),
              ),
            ),
          ),
        ),
      ),
    )
