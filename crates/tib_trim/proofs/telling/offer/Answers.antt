use Rattle.std.specs.Prelude.{◌≡◌, Some, None}
use Rattle.std.proofs.Common.{ap, sym, ◌∙◌, inl}
use Rattle.std.proofs.lemmas.List.{get_or_read}
use Rattle.tib_inside.specs.Settling.{costs_in}
use Rattle.tib_inside.proofs.Moving.{has_some}
use Rattle.tib_prune.proofs.Told.{adds_none, adds_one}
use Rattle.tib_trim.proofs.telling.offer.Goals as goal

pub returns-then-is_some : goal.returns-then-is_some
returns-then-is_some c =
    let at = get_or_read c.args.outsides.now c.args.state c.index-outsides-state.result c.requires c.index-outsides-state.is None in
    let known = has_some c.index-outsides-state.result (sym c.is_some.ensures ∙ c.if-is_some.true) in
    adds_none (costs_in c.args.outsides.now) (λ e. (c.args.state ≡ e.1) × (c.args.told ≡ Some e.0)) 1 c.args.agenda.now (λ e h. inl (known.0, ap (costs_in c.args.outsides.now) (sym h.0) ∙ sym at ∙ known.1))

pub returns : goal.returns
returns c = adds_one (costs_in c.args.outsides.now) c.args.told c.args.state c.in-Some.cost c.args.agenda.now c.push.new.self c.in-Some.is c.in_ok-push.ensures
