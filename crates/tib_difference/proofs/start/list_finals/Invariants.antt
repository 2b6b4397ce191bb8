use Rattle.std.proofs.Common.{◌≡◌, ◌++◌, drop}
use Rattle.tib_difference.specs.Ending.{listed_finals}
use Rattle.tib_difference.proofs.start.list_finals.Given as goal

abbrev pub invariant-loop-position : goal.invariant-loop-position
invariant-loop-position l = l.found.items ++ listed_finals l.position (drop l.position l.order) ≡ listed_finals 0 l.order
