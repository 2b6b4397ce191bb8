use Rattle.std.proofs.Common.{subst, sym}
use Rattle.tib_workers.specs.Hands.{IsHand}
use Rattle.tib_workers.proofs.Handing.{hand_less, hand_more}
use Rattle.tib_workers.proofs.work.work_once.Goals as goal

pub returns-in_default-make_row-clause-hand : goal.returns-in_default-make_row-clause-hand
returns-in_default-make_row-clause-hand g c =
    hand_less g.P.Task.gives g.P.Task.count_of g.P.Task.is_ready (g.P.Problem.about c.args.task) c.args.table.now c.args.items.now c.args.hand.now.share c.args.hand.now.rows.items c.args.hand.now.left c.args.hand.now.going c.args.hand.now.seat c.args.hand.now.seats c.requires.hand
    c.draw.new.seat c.in-Some.item c.in-Some.ensures.some c.make_row.new.seats c.make_row.ensures.table c.make_row.ensures.more

pub returns-in_default-push-clause-hand : goal.returns-in_default-push-clause-hand
returns-in_default-push-clause-hand g c =
    subst (λ l. IsHand g.P.Task.gives g.P.Task.count_of g.P.Task.is_ready (g.P.Problem.about c.args.task) c.args.table.now c.args.items.now c.args.hand.now.share l c.args.hand.now.left c.args.hand.now.going c.draw.new.seat c.make_row.new.seats) (sym c.in_default-push.ensures.items)
    (hand_less g.P.Task.gives g.P.Task.count_of g.P.Task.is_ready (g.P.Problem.about c.args.task) c.args.table.now c.args.items.now c.args.hand.now.share c.args.hand.now.rows.items c.args.hand.now.left c.args.hand.now.going c.args.hand.now.seat c.args.hand.now.seats c.requires.hand
    c.draw.new.seat c.in-Some.item c.in-Some.ensures.some c.make_row.new.seats c.make_row.ensures.table c.make_row.ensures.more)

pub returns-clause-hand : goal.returns-clause-hand
returns-clause-hand g c =
    hand_more g.P.Task.gives g.P.Task.count_of g.P.Task.is_ready (g.P.Problem.about c.args.task) c.args.table.now c.args.items.now c.args.hand.now.share c.args.hand.now.rows.items c.args.hand.now.left c.args.hand.now.going c.args.hand.now.seat c.args.hand.now.seats c.requires.hand
    c.draw.new.seat c.in-Some.item c.in-Some.ensures.some c.make_row.new.seats c.make_row.ensures.table c.make_row.ensures.more c.in-Ok.row c.in-Ok.ensures.row c.in-Ok.ensures.within c.push.new.self.items c.in-Ok-push.ensures.items
