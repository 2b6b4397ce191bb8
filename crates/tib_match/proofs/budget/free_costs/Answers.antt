use Rattle.std.proofs.Common.{◌++◌, ◌∷◌, [], ap, sym, ◌∙◌}
use Rattle.tib_match.specs.declared.hole_cost.HoleCost.TheVariants.{Free}
use Rattle.tib_match.proofs.Budgets.{hole_more, label_more, all_holes}
use Rattle.tib_match.proofs.budget.free_costs.Goals.{in-Hole+in_ok-push, in_default}
use Rattle.tib_match.proofs.budget.free_costs.Goals as goal

pub loop-item-preserved : goal.loop-item-preserved
loop-item-preserved g c = elim c.match-item.branch [
  | in-Hole+in_ok-push w ↦
      ap (λ v. v.items) w.costs-is ∙ w.in_ok-push.ensures.items ∙ ap (λ xs. xs ++ Free ∷ []) c.loop-item.invariant
      ∙ hole_more c.args.items.now c.loop-item.item-index c.item-item.result w.in-Hole.field-0 c.loop-item-test.true (sym c.item-item.is) w.in-Hole.is
  | in_default w ↦
      ap (λ v. v.items) w.costs-is ∙ c.loop-item.invariant
      ∙ label_more c.args.items.now c.loop-item.item-index c.item-item.result c.loop-item-test.true (sym c.item-item.is) w.in_default.not-Hole
]

pub returns : goal.returns
returns g c = c.loop-item.invariant ∙ all_holes c.args.items.now c.loop-item.item-index c.loop-item-test.false
