use Rattle.std.proofs.Common.{◌≡◌, ◌≤◌, ◌-◌, length, map, take, drop}
use Rattle.tib_grammar.specs.Items.{state_in}
use Rattle.tib_match.specs.Boxes.{cost_along, stack_of}
use Rattle.tib_match.proofs.columns.product_along.Given as goal

abbrev pub invariant-loop-i : goal.invariant-loop-i
invariant-loop-i g l = record {
  within : l.i ≤ length l.columns;
  total : l.total ≡ cost_along g.S.Semiring.product (stack_of (take l.i l.columns)) (map state_in (drop (length l.states - l.i) l.states));
}

abbrev pub decreases-loop-i : goal.decreases-loop-i
decreases-loop-i g l = length l.columns - l.i
