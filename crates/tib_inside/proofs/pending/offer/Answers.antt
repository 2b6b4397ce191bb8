use Rattle.std.proofs.Common.{arith, sym, ◌∙◌, inl}
use Rattle.std.specs.Prelude.{None}
use Rattle.std.proofs.lemmas.List.{get_or_read}
use Rattle.tib_inside.specs.Settling.{costs_in}
use Rattle.tib_inside.proofs.Moving.{offered_nothing, offered_more, has_some}
use Rattle.tib_inside.proofs.pending.offer.Goals as goal

pub returns-then-is_some : goal.returns-then-is_some
returns-then-is_some c =
    let known = has_some c.index-costs-rule.result (sym c.is_some.ensures ∙ c.if-is_some.true) in
    offered_nothing (costs_in c.args.costs.now) c.args.rule.now c.args.agenda.now
    (λ z d t. inl (known.0, sym (get_or_read c.args.costs.now c.args.rule.now.left c.index-costs-rule.result c.requires.left c.index-costs-rule.is None) ∙ known.1))

pub returns : goal.returns
returns c =
    offered_more (costs_in c.args.costs.now) c.args.rule.now c.in-Some.cost c.args.agenda.now c.push.new.self (omega (arith, c.if-rule-gt0.false)) c.in-Some.is c.in_ok-push.ensures
