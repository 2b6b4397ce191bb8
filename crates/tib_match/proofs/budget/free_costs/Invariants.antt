use Rattle.std.proofs.Common.{◌≡◌, length, replicate, take}
use Rattle.tib_grammar.specs.Items.{holes_in}
use Rattle.tib_match.specs.declared.hole_cost.HoleCost.TheVariants.{Free}
use Rattle.tib_match.proofs.budget.free_costs.Given as goal

abbrev pub invariant-loop-item : goal.invariant-loop-item
invariant-loop-item g l = l.costs.items ≡ replicate (length (holes_in (take l.item-index l.items))) Free
