use Rattle.std.proofs.Common.{◌≡◌}
use Rattle.std.specs.Prelude.{replicate, None}
use Rattle.tib_trim.proofs.settling.no_costs.Given as goal

abbrev pub invariant-loop : goal.invariant-loop
invariant-loop l = l.costs.items ≡ replicate l.counter None
