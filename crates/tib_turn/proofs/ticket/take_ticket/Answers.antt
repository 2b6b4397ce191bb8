use Rattle.std.proofs.Common.{rules, ◌∙◌, ap, Option}
use Rattle.atomic_table.specs.Table.{Me}
use Rattle.tib_turn.specs.declared.view.View.{View}
use Rattle.tib_turn.proofs.ticket.take_ticket.Goals as goal
use Rattle.tib_turn.proofs.Entering.{draws}

pub compare_exchange-found-requires : goal.compare_exchange-found-requires
compare_exchange-found-requires g c =
    let same = c.loop.invariant.3 in
    let near = c.if-next-lt18446744073709551615.true in
    (search rules, search rules, draws g.V.Grows.log _ _ c.loop.next c.loop.place.me (ap (λ (m : Me (Option g.row.V.Denot) (View g.row.V-Entry.Denot)). m.0.stage) same ∙ c.requires.out.0) near)
