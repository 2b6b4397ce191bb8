-- The series of the rules with two ways to S(a a).
use Rattle.std.specs.Prelude.{◌+◌, max, [], ◌∷◌, true, Some}
use Rattle.std.proofs.Common.{zero, suc, arith}
use Rattle.tib_cost.specs.Semiring.{sum_laws, max_laws}
use Rattle.tib_tree.specs.Trees.{none, tree, only}
use Rattle.tib_grammar.specs.Series.{IsSeries, IsSeriesAt}
use Rattle.tib_grammar.specs.Forms.{AreNormal}
use Rattle.tib_grammar.proofs.Best.{best-is_least}
use Rattle.tib_weigh.specs.Examples.{pair, two_ways}

pub two_ways_normal : AreNormal two_ways
two_ways_normal zero h = record { is_label = tt; are_holes = tt }
two_ways_normal (suc zero) h = record { is_label = tt; are_holes = tt }
two_ways_normal (suc (suc zero)) h = record { is_label = tt; are_holes = tt }
two_ways_normal (suc (suc (suc zero))) h = record { is_label = tt; are_holes = tt }
two_ways_normal (suc (suc (suc (suc n)))) h = absurd (omega arith)

pub sum_series : IsSeries ◌+◌ two_ways pair (Some 5)
sum_series = best-is_least sum_laws two_ways two_ways_normal (only pair) (0 ∷ [])

pub greatest_series : IsSeries max two_ways pair (Some 2)
greatest_series = best-is_least (max_laws true) two_ways two_ways_normal (only pair) (0 ∷ [])

pub state_series : IsSeriesAt ◌+◌ two_ways 2 (record { label = 1; kids = none }) (Some 2)
state_series = best-is_least sum_laws two_ways two_ways_normal (tree 1 none none) (2 ∷ [])
