use Rattle.std.proofs.Common.{◌≡◌, ◌+◌, length, take}
use Rattle.tib_grammar.specs.Items.{holes_in}
use Rattle.tib_match.proofs.hole_cost.is_each_priced.Given as goal

abbrev pub invariant-loop-item : goal.invariant-loop-item
invariant-loop-item g l = l.left + length (holes_in (take l.item-index l.items)) ≡ length l.costs
