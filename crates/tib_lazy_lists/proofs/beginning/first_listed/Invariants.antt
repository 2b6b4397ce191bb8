use Rattle.std.specs.HashSet.{keys}
use Rattle.tib_lazy_lists.specs.Beginnings.{AreSomeListed}
use Rattle.tib_lazy_lists.proofs.beginning.first_listed.Given as goal

abbrev pub invariant-loop-state : goal.invariant-loop-state
invariant-loop-state g l = AreSomeListed l.lists l.state (keys l.listed)
