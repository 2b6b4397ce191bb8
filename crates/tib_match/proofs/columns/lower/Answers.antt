use Rattle.std.proofs.Common.{ap, sym, ◌∙◌, Some, None}
use Rattle.std.proofs.lemmas.List.{get_or_read}
use Rattle.tib_cost.specs.Least.{times, lesser}
use Rattle.tib_match.specs.Boxes.{cost_along, stack_of}
use Rattle.tib_match.proofs.ColumnSteps.{lowered, not_lowered}
use Rattle.tib_match.proofs.columns.lower.Goals as goal

pub returns-in_default : goal.returns-in_default
returns-in_default g c =
    let product = g.S.Semiring.product in
    not_lowered product c.args.rule.now (stack_of c.args.below.now) c.args.column.now.items
    (ap (λ qs. times product (Some c.args.rule.now.cost) (cost_along product (stack_of c.args.below.now) qs)) (sym c.states_below.ensures.states)
    ∙ ap (times product (Some c.args.rule.now.cost)) (sym c.product_along-below.ensures) ∙ sym c.product_of.ensures ∙ c.in_default.is)

pub returns : goal.returns
returns g c =
    let product = g.S.Semiring.product in
    lowered product c.args.rule.now (stack_of c.args.below.now) c.args.column.now.items c.in-Some.cost c.lesser_of-least.result c.requires.within
    (ap (λ qs. times product (Some c.args.rule.now.cost) (cost_along product (stack_of c.args.below.now) qs)) (sym c.states_below.ensures.states)
    ∙ ap (times product (Some c.args.rule.now.cost)) (sym c.product_along-below.ensures) ∙ sym c.product_of.ensures ∙ c.in-Some.is)
    (c.lesser_of-least.ensures ∙ ap (λ o. lesser o (Some c.in-Some.cost)) (get_or_read c.args.column.now.items c.args.rule.now.left c.index.result.now c.requires.within c.index.ensures None))
