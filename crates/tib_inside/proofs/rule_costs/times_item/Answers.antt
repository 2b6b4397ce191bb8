use Rattle.std.proofs.Common.{◌∙◌}
use Rattle.std.specs.Prelude.{None, Some}
use Rattle.tib_inside.specs.Settling.{costs_in}
use Rattle.tib_inside.proofs.Totals.{item_label, item_hole, item_missing, read_in}
use Rattle.tib_inside.proofs.rule_costs.times_item.Goals as goal

pub returns-in-Label-clause-product : goal.returns-in-Label-clause-product
returns-in-Label-clause-product g c = item_label g.met.S.Semiring.laws (costs_in c.args.costs.now) c.args.cost c.in-Label.label c.in-Label.rank c.args.item.now c.in-Label.is c.requires.within

pub returns-in-Some-clause-product : goal.returns-in-Some-clause-product
returns-in-Some-clause-product g c =
    c.times.ensures
    ∙ item_hole g.met.S.Semiring.laws (costs_in c.args.costs.now) c.args.cost c.in-Hole.state c.in-Some.more c.args.item.now c.in-Hole.is
    (read_in c.args.costs.now c.in-Hole.state c.args.item.now (Some c.in-Some.more) _ c.in-Hole.is c.requires.below c.in-Some.is)

pub returns-in-None-clause-product : goal.returns-in-None-clause-product
returns-in-None-clause-product g c =
    item_missing g.met.S.Semiring.laws (costs_in c.args.costs.now) c.args.cost c.in-Hole.state c.args.item.now c.in-Hole.is
    (read_in c.args.costs.now c.in-Hole.state c.args.item.now None _ c.in-Hole.is c.requires.below c.in-None.is)
