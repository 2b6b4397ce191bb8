use Rattle.std.proofs.Common.{subst, sym, ap, ◌∙◌, length}
use Rattle.std.specs.Prelude.{Some}
use Rattle.tib_cost.specs.Least.{times}
use Rattle.tib_grammar.specs.Range.{AllBelow}
use Rattle.tib_grammar.proofs.Holes.{holes_of_items}
use Rattle.tib_inside.specs.Inside.{total}
use Rattle.tib_inside.specs.Settling.{costs_in}
use Rattle.tib_inside.proofs.rule_costs.rule_cost.Goals as goal

pub times_items-requires : goal.times_items-requires
times_items-requires g c =
    subst (AllBelow (length c.args.costs.now)) (holes_of_items c.items.result.now c.args.rule.now.right c.items.ensures.items) c.requires

pub returns : goal.returns
returns g c =
    c.times.ensures
    ∙ ap (times g.S.Semiring.product (Some c.args.rule.now.cost)) (sym c.in-Some.is ∙ c.times_items.ensures ∙ ap (total g.S.Semiring.product (costs_in c.args.costs.now)) (sym (holes_of_items c.items.result.now c.args.rule.now.right c.items.ensures.items)))

pub returns-in_default : goal.returns-in_default
returns-in_default g c =
    ap (times g.S.Semiring.product (Some c.args.rule.now.cost)) (sym c.in_default.is ∙ c.times_items.ensures ∙ ap (total g.S.Semiring.product (costs_in c.args.costs.now)) (sym (holes_of_items c.items.result.now c.args.rule.now.right c.items.ensures.items)))
