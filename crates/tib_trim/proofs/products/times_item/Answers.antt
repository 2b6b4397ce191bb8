use Rattle.std.proofs.Common.{length}
use Rattle.std.specs.Prelude.{None}
use Rattle.std.proofs.lemmas.List.{get_or_read}
use Rattle.tib_inside.specs.Settling.{costs_in}
use Rattle.tib_trim.proofs.ToldItems.{total_label, total_hole, state_below}
use Rattle.tib_trim.proofs.products.times_item.Goals as goal

pub returns-in-Label : goal.returns-in-Label
returns-in-Label g c = λ qs e. total_label g.S.Semiring.product (costs_in c.args.costs.now) c.args.item.now qs c.in-Label.label c.in-Label.rank c.args.after.now c.in-Label.is e

pub bounds-costs-state : goal.bounds-costs-state
bounds-costs-state g c = state_below (length c.args.costs.now) c.args.item.now c.in-Hole.state c.in-Hole.is c.requires

pub returns-in-Hole : goal.returns-in-Hole
returns-in-Hole g c = λ qs e.
    total_hole g.S.Semiring.product (costs_in c.args.costs.now) c.args.item.now qs c.in-Hole.state c.index-costs-state.result c.args.after.now c.times.result c.in-Hole.is
    (get_or_read c.args.costs.now c.in-Hole.state c.index-costs-state.result (state_below (length c.args.costs.now) c.args.item.now c.in-Hole.state c.in-Hole.is c.requires) c.index-costs-state.is None) e c.times.ensures
