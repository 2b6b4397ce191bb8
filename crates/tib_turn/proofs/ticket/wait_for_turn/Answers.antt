use Rattle.std.proofs.Common.{rules, ◌∙◌, ap, sym, ℕ, List, Option, Some, ◌∷◌}
use Rattle.atomic_table.specs.Table.{Me, rest}
use Rattle.tib_turn.specs.declared.view.View.{View}
use Rattle.tib_turn.proofs.ticket.wait_for_turn.Goals as goal
use Rattle.tib_turn.proofs.Entering.{looks}

pub load-served-requires : goal.load-served-requires
load-served-requires g c =
    let same = c.loop.invariant.3 in
    (search rules, search rules, looks g.V.Grows.log _ _ c.args.ticket c.loop.place.me (ap (λ (m : Me (Option g.row.V.Denot) (View g.row.V-Entry.Denot)). m.0.stage) same ∙ c.requires.waits.0))

pub exchange-requires : goal.exchange-requires
exchange-requires g c =
    let same = c.loop.invariant.3 in
    let waits = ap (λ (m : Me (Option g.row.V.Denot) (View g.row.V-Entry.Denot)). m.0.stage) same ∙ c.requires.waits.0 in
    let e = (c.load-served.ensures.2 c.args.ticket waits).0 c.if-served-ticket.true in
    (search rules, (Some e.0, e.1 ∙ ap (λ (l : List (ℕ × Option g.row.V.Denot)). (0, Some e.0) ∷ rest l) (sym e.1)))
