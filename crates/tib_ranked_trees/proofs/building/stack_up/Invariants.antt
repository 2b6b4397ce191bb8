use Rattle.std.proofs.Common.{◌≡◌, ◌≤◌, ◌++◌, length, drop}
use Rattle.tib_ranked_trees.specs.Numbers.{back}
use Rattle.tib_ranked_trees.proofs.building.stack_up.Given as goal

abbrev pub invariant-loop-i : goal.invariant-loop-i
invariant-loop-i l =
    (l.i ≤ length l.numbers) × (back l.stack.items ≡ drop l.i l.numbers ++ back l.fn.stack.items)

abbrev pub decreases-loop-i : goal.decreases-loop-i
decreases-loop-i l = l.i
