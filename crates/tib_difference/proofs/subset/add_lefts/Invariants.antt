use Rattle.std.proofs.Common.{◌≡◌, ◌++◌, drop}
use Rattle.tib_difference.specs.Difference.{keys_at, subsets_of}
use Rattle.tib_difference.specs.Lefts.{lefts_at}
use Rattle.tib_difference.proofs.subset.add_lefts.Given as goal

abbrev pub invariant-loop-number : goal.invariant-loop-number
invariant-loop-number l =
    l.states.items ++ lefts_at l.rules (subsets_of (keys_at l.order l.positions)) (drop l.number-index l.numbers)
    ≡ l.initial.states.items ++ lefts_at l.rules (subsets_of (keys_at l.order l.positions)) l.numbers
