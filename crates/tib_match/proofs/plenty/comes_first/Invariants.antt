use Rattle.std.proofs.Common.{◌≡◌, ◌-◌, map, take}
use Rattle.tib_grammar.specs.Items.{state_in}
use Rattle.tib_match.proofs.plenty.comes_first.Given as goal

abbrev pub invariant-loop-i : goal.invariant-loop-i
invariant-loop-i l = take l.i (map state_in l.one) ≡ take l.i (map state_in l.two)

abbrev pub decreases-loop-i : goal.decreases-loop-i
decreases-loop-i l = l.front - l.i
