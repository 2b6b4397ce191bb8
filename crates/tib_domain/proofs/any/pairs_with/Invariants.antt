use Rattle.std.proofs.Common.{◌≡◌}
use Rattle.std.specs.List.{range_with_len}
use Rattle.tib_domain.specs.Reading.{pairs_from, only_pairs}
use Rattle.tib_domain.proofs.any.pairs_with.Given as goal

abbrev pub invariant-loop-variable : goal.invariant-loop-variable
invariant-loop-variable l = l.tokens.items ≡ only_pairs (pairs_from l.state (range_with_len 0 l.variable))
