use Rattle.tib_determinize.specs.Occurrences.{HoldPlaces}
use Rattle.tib_determinize.proofs.occurrences.Occurrences.new.Given as goal

abbrev pub invariant-loop-rule : goal.invariant-loop-rule
invariant-loop-rule l = HoldPlaces l.rules l.many l.rule l.lists.items
