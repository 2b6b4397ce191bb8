use Rattle.std.proofs.Common.{◌≡◌, drop, map}
use Rattle.tib_grammar.specs.Items.{state_in}
use Rattle.tib_difference.specs.Difference.{keys_at, subsets_of}
use Rattle.tib_difference.specs.Lefts.{are_in}
use Rattle.tib_difference.proofs.subset.all_in.Given as goal

abbrev pub invariant-loop-i : goal.invariant-loop-i
invariant-loop-i l =
    are_in (map state_in l.states) (subsets_of (keys_at l.order l.positions))
    ≡ are_in (map state_in (drop l.i l.states)) (subsets_of (keys_at l.order (drop l.i l.positions)))
