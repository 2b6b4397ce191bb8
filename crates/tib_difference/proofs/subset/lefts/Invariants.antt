use Rattle.std.proofs.Common.{◌≡◌, ◌++◌, drop}
use Rattle.tib_difference.specs.Difference.{keys_at, subsets_of}
use Rattle.tib_difference.specs.Lefts.{lefts_from, lefts_over}
use Rattle.tib_difference.proofs.subset.lefts.Given as goal

abbrev pub invariant-loop-first : goal.invariant-loop-first
invariant-loop-first l =
    l.states.items ++ lefts_from l.second.rules.now l.label (subsets_of (keys_at l.order l.positions)) (drop l.first-index l.firsts)
    ≡ lefts_over l.second.rules.now l.label (subsets_of (keys_at l.order l.positions))
