use Rattle.std.proofs.Common.{ap, sym, ◌∙◌, Some}
use Rattle.std.specs.HashMap.{get}
use Rattle.tib_cost.specs.Least.{times, lesser}
use Rattle.tib_apply.specs.LeastRuns.{same_start, inside_total}
use Rattle.tib_apply.proofs.RunCosts.{lowered}
use Rattle.tib_apply.proofs.deleting.add_begun.Goals as goal

pub returns : goal.returns
returns g c =
    let product = g.S.Semiring.product in
    let below = c.total_of-below.ensures ∙ ap (inside_total product c.args.insides.now) c.states_below.ensures.states in
    lowered product c.args.insides.now c.args.rule.now (get same_start c.args.begun.now) (get same_start c.insert.new.self) c.root-label.result.0 c.in-Some.cost c.lesser_of-least.result c.root-label.ensures.label
    (sym c.in-Some.is ∙ c.product_of.ensures ∙ ap (times product (Some c.args.rule.now.cost)) below)
    (c.lesser_of-least.ensures ∙ ap (λ o. lesser o (Some c.in-Some.cost)) (c.copied.ensures ∙ c.get.ensures.value))
    c.in_ok-insert.ensures.updates.0
