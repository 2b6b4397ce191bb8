use Rattle.std.proofs.Common.{◌-◌}
use Rattle.tib_k_best.specs.Splits.{IsSearched}
use Rattle.tib_k_best.proofs.search.split_levels.Given as goal

abbrev pub invariant-loop-low : goal.invariant-loop-low
invariant-loop-low g l = IsSearched g.S.Semiring.product l.labels l.rules l.k l.costs.items l.low l.high l.below l.at

abbrev pub decreases-loop-low : goal.decreases-loop-low
decreases-loop-low g l = l.high - l.low
