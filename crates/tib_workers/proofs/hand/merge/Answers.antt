use Rattle.std.proofs.Common.{ap}
use Rattle.tib_table.specs.Known.{Knowledge}
use Rattle.tib_workers.proofs.Handing.{hand_both}
use Rattle.tib_workers.proofs.hand.merge.Goals as goal

pub returns-clause-hand : goal.returns-clause-hand
returns-clause-hand g c = hand_both g.P.Task.gives g.P.Task.count_of g.P.Task.is_ready (g.P.Problem.about c.args.task) c.args.table.now c.args.items.now c.args.all.now.share c.args.one.share c.args.all.now.rows.items c.args.one.rows.items c.append.new.self.items c.args.all.now.left c.args.one.left c.args.all.now.going c.args.one.going c.are_both-all.result c.args.all.now.seat c.args.one.seat c.join.new.seat c.args.all.now.seats c.args.one.seats c.join-2.new.seats
    c.requires.all c.requires.one c.in_ok-append.ensures.items c.join.ensures.both (ap (λ (s : Knowledge g.row.P-Data.Denot g.row.P-Key.Denot). s.table) c.join-2.ensures.both) c.join-2.ensures.this c.join-2.ensures.that c.are_both-all.ensures.one c.are_both-all.ensures.other
