use Rattle.tib_workers.proofs.Handing.{hand_split}
use Rattle.tib_workers.proofs.hand.split.Goals as goal

pub returns-clause-hand : goal.returns-clause-hand
returns-clause-hand g c =
    hand_split g.P.Task.gives g.P.Task.count_of g.P.Task.is_ready (g.P.Problem.about c.args.task) c.args.table.now c.args.items.now c.args.hand.now.share c.args.hand.now.rows.items c.args.hand.now.left c.args.hand.now.going c.args.hand.now.seat c.args.hand.now.seats c.requires.hand
    c.split-seat.new.seat c.split.new.seats c.split-seat.ensures.kept c.split.ensures.kept
