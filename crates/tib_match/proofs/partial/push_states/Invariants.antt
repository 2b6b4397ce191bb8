use Rattle.std.proofs.Common.{◌≡◌, ◌++◌, reverse, drop, ◌≤◌, length}
use Rattle.tib_grammar.specs.Items.{holes_in}
use Rattle.tib_match.proofs.partial.push_states.Given as goal

abbrev pub invariant-loop-i : goal.invariant-loop-i
invariant-loop-i l =
    (l.waiting.items ≡ l.initial.waiting.items ++ reverse (holes_in (drop l.i l.items)))
    × (l.i ≤ length l.items)

abbrev pub decreases-loop-i : goal.decreases-loop-i
decreases-loop-i l = l.i
