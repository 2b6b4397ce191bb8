use Rattle.std.proofs.Common.{◌+◌, length, ap, sym, ◌∙◌, subst}
use Rattle.tib_apply.proofs.AffordableMatches.{AreCostsSoFar, hole_next, label_next, holes_whole, next_below}
use Rattle.tib_apply.proofs.deleting.LeastRuns.hole_costs.Goals.{in-Hole+in_ok-cost+in_ok-push, in_default}
use Rattle.tib_apply.proofs.deleting.LeastRuns.hole_costs.Goals as goal

pub loop-item-init : goal.loop-item-init
loop-item-init c = subst (AreCostsSoFar c.args.self.now c.args.states c.args.kept.now c.args.items.now 0) (sym c.new-costs.ensures.items) (λ more are. are)

pub hole_cost-requires : goal.hole_cost-requires
hole_cost-requires c = next_below c.args.items.now c.loop-item.item-index (length c.args.kept.now) _ c.in-Hole.variable c.loop-item-test.true c.in-Hole.is c.requires

pub loop-item-preserved : goal.loop-item-preserved
loop-item-preserved c = elim c.match-item.branch [
  | in-Hole+in_ok-cost+in_ok-push w ↦
      subst (AreCostsSoFar c.args.self.now c.args.states c.args.kept.now c.args.items.now (c.loop-item.item-index + 1)) (sym (ap (λ v. v.items) w.costs-is ∙ w.in_ok-push.ensures.items))
      (hole_next c.args.self.now c.args.states c.args.kept.now c.args.items.now c.loop-item.item-index _ w.in-Hole.variable w.in_ok-cost.cost c.loop-item.costs.items c.loop-item-test.true w.in-Hole.is w.in_ok-cost.ensures
      c.loop-item.invariant)
  | in_default w ↦
      subst (AreCostsSoFar c.args.self.now c.args.states c.args.kept.now c.args.items.now (c.loop-item.item-index + 1)) (sym (ap (λ v. v.items) w.costs-is))
      (label_next c.args.self.now c.args.states c.args.kept.now c.args.items.now c.loop-item.item-index _ w.in_default.field-0 w.in_default.field-1 c.loop-item.costs.items c.loop-item-test.true w.in_default.is
      c.loop-item.invariant)
]

pub returns : goal.returns
returns c = holes_whole c.args.self.now c.args.states c.args.kept.now c.args.items.now c.loop-item.item-index c.loop-item.costs.items c.loop-item-test.false c.loop-item.invariant
