use Rattle.std.proofs.Common.{◌≡◌, ◌++◌, map}
use Rattle.std.specs.Prelude.{Some}
use Rattle.std.specs.Vec.Iter.{into_iter_items}
use Rattle.tib_canon.proofs.transducer_taking.places_of.Given as goal

abbrev pub invariant-loop-rule : goal.invariant-loop-rule
invariant-loop-rule l = map (λ r. Some r) l.fn.rules.items ≡ l.places.items ++ map (λ r. Some r) (into_iter_items l.rule-iterator)
