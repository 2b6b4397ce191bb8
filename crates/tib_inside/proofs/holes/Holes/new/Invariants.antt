use Rattle.tib_inside.specs.Holes.{AreHolesUpTo}
use Rattle.tib_inside.proofs.holes.Holes.new.Given as goal

abbrev pub invariant-loop-n : goal.invariant-loop-n
invariant-loop-n l = AreHolesUpTo l.rules l.n l.states.items l.owners.items l.counts.items
