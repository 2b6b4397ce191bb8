use Rattle.std.proofs.Common.{rules, ◌∙◌, ap}
use Rattle.tib_turn.specs.Seen.{Seen}
use Rattle.tib_turn.proofs.lock.TurnLock.join.Goals as goal
use Rattle.tib_turn.proofs.Sharing.{pairs, learns}
use Rattle.tib_turn.proofs.Leaving.{out_of}

pub join_seat-requires : goal.join_seat-requires
join_seat-requires g c =
    let p = out_of g.V.Grows.log c.pass.inside.seat.me.0.stage c.pass.inside.seat.me.1 c.pass.invariant (ap (λ (s : Seen g.row.V-Entry.Denot). s.inside) c.pass.view_is ∙ c.requires.outside.0) in
    let o = out_of g.V.Grows.log c.other.inside.seat.me.0.stage c.other.inside.seat.me.1 c.other.invariant (ap (λ (s : Seen g.row.V-Entry.Denot). s.inside) c.other.view_is ∙ c.requires.outside.1) in
    (search rules, search rules, o.1, search rules, pairs g.V.Grows.log _ _ _ _ p.0 o.0)

pub load-requires : goal.load-requires
load-requires g c = (search rules, search rules, learns g.V.Grows.log _ _ c.join_seat.new.seat.me (search rules))
