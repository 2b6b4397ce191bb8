use Rattle.std.proofs.Common.{◌≡◌, ◌++◌, map}
use Rattle.std.specs.Vec.Iter.{into_iter_items}
use Rattle.tib_domain.specs.Reading.{reading_rule}
use Rattle.tib_domain.proofs.transducer.readings.Given as goal

abbrev pub invariant-loop-rule : goal.invariant-loop-rule
invariant-loop-rule l = l.moves.items ++ map (reading_rule l.any) (into_iter_items l.rule-iterator) ≡ map (reading_rule l.any) l.fn.rules.items
