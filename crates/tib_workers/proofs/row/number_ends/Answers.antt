use Rattle.tib_workers.proofs.Rowing.{go_trans, named_next}
use Rattle.tib_workers.proofs.row.number_ends.Goals as goal

pub loop-key-preserved : goal.loop-key-preserved
loop-key-preserved g c =
    let i = c.loop-key.invariant in
    let n = c.in-Ok.ensures in (
      tt,
      tt,
      n.table,
      go_trans c.args.seats.now.known c.loop-key.seats.known c.number.new.seats.known i.3 n.more,
      named_next c.loop-key.seats.known c.number.new.seats.known n.more c.loop-key.yielded c.loop-key.numbers.items c.push.new.self.items c.in-Some.key c.in-Ok.number i.4 (n.named, tt) c.in_ok-push-in-Ok.ensures.items,
    )

pub returns-in_err-push-in-Ok-clause-more : goal.returns-in_err-push-in-Ok-clause-more
returns-in_err-push-in-Ok-clause-more g c = go_trans c.args.seats.now.known c.loop-key.seats.known c.number.new.seats.known c.loop-key.invariant.3 c.number.ensures.more

pub returns-in-Err-clause-more : goal.returns-in-Err-clause-more
returns-in-Err-clause-more g c = go_trans c.args.seats.now.known c.loop-key.seats.known c.number.new.seats.known c.loop-key.invariant.3 c.number.ensures.more
