use Rattle.std.proofs.Common.{arith, ap, sym, ◌∙◌, ◌≡◌, ◌-◌, ℕ, min, length}
use Rattle.std.specs.Prelude.{None}
use Rattle.std.proofs.lemmas.List.{get_or_default, get_or_read}
use Rattle.tib_cost.proofs.Times.{cut-some}
use Rattle.tib_inside.specs.Settling.{costs_in}
use Rattle.tib_prune.specs.Outside.{through}
use Rattle.tib_prune.proofs.Counted.{beam_to, no_beam, is_cost}
use Rattle.tib_prune.proofs.pruning.beam_for.Goals as goal

pub returns-in_default : goal.returns-in_default
returns-in_default g c =
    no_beam (through g.S.Semiring.product (costs_in c.args.insides.now) (costs_in c.args.outsides.now)) c.args.rules.now c.args.count c.one.result (costs_in c.args.insides.now 0)
    (get_or_default c.args.insides.now 0 None _ c.requires.some ∙ c.in_default.is) c.one.ensures

pub returns-then-last-eq0 : goal.returns-then-last-eq0
returns-then-last-eq0 g c =
    let long : c.len.result ≡ length c.in_ok-costs.costs.items = omega (arith, c.len.ensures, c.in_ok-costs.costs.ok.0) in
    beam_to (through g.S.Semiring.product (costs_in c.args.insides.now) (costs_in c.args.outsides.now)) c.args.rules.now c.in_ok-costs.costs.items c.in_ok-costs.ensures c.args.count c.min-last.result c.in-Some.best c.one-then-last-eq0.result
    (costs_in c.args.insides.now 0) (get_or_default c.args.insides.now 0 None _ c.requires.some ∙ c.in-Some.is) (c.min-last.ensures ∙ ap (λ (n : ℕ). min n c.args.count) long) (λ z. c.one-then-last-eq0.ensures)
    (λ h. absurd (omega (arith, h, c.if-last-eq0.true)))

pub returns-in-Some-new : goal.returns-in-Some-new
returns-in-Some-new g c =
    let long : c.len.result ≡ length c.in_ok-costs.costs.items = omega (arith, c.len.ensures, c.in_ok-costs.costs.ok.0) in
    let last : c.min-last.result ≡ min (length c.in_ok-costs.costs.items) c.args.count = c.min-last.ensures ∙ ap (λ (n : ℕ). min n c.args.count) long in
    let at = get_or_read c.in_ok-costs.costs.items (c.min-last.result - 1) c.index.result.now (omega (arith, last, c.if-last-eq0.false)) c.index.ensures 0 in
    let sub = cut-some c.saturating_sub.result c.in-Some-new.beam (sym c.new.ensures ∙ c.in-Some-new.is) in
    beam_to (through g.S.Semiring.product (costs_in c.args.insides.now) (costs_in c.args.outsides.now)) c.args.rules.now c.in_ok-costs.costs.items c.in_ok-costs.ensures c.args.count c.min-last.result c.in-Some.best c.in-Some-new.beam
    (costs_in c.args.insides.now 0) (get_or_default c.args.insides.now 0 None _ c.requires.some ∙ c.in-Some.is) last (λ z. absurd (omega (arith, z, c.if-last-eq0.false)))
    (λ h. omega (arith, sub.0, c.saturating_sub.ensures, c.get.ensures.same, c.get-2.ensures.same, at))
