use Rattle.std.proofs.Common.{◌≡◌, ◌++◌, None}
use Rattle.std.specs.Vec.Iter.{into_iter_items}
use Rattle.tib_determinize.specs.Settling.{firsts}
use Rattle.tib_determinize.proofs.settling.least_costs.Given as goal

abbrev pub invariant-loop-state : goal.invariant-loop-state
invariant-loop-state l = l.kept.items ++ firsts l.previous (into_iter_items l.state-iterator) ≡ firsts None (into_iter_items l.initial.state-iterator)
