use Rattle.std.proofs.Common.{rules, ◌∙◌, ap, sym, subst}
use Rattle.tib_turn.specs.Seen.{Seen}
use Rattle.tib_turn.specs.Prefixes.{IsPrefix}
use Rattle.tib_turn.proofs.lock.TurnLock.leave.Goals as goal
use Rattle.tib_turn.proofs.Leaving.{leaves_after}

pub fetch_add-ticket-requires : goal.fetch_add-ticket-requires
fetch_add-ticket-requires g c =
    let is = ap (λ (s : Seen g.row.V-Entry.Denot). s.inside) c.pass.view_is ∙ c.requires.inside in
    let seen = ap (λ (s : Seen g.row.V-Entry.Denot). s.seen) c.pass.view_is in
    let grows = subst (λ l. IsPrefix l (g.V.Grows.log c.args.turn.value)) (sym seen) c.requires.grows in
    (search rules, search rules, leaves_after g.V.Grows.log _ _ c.pass.inside.seat.me c.exchange-empty.new.seat.me c.args.turn.value c.pass.invariant is c.exchange-empty.ensures.3 grows)
