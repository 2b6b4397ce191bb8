use Rattle.std.proofs.Common.{[], List}
use Rattle.std.specs.Vec.Iter.{into_iter_items}
use Rattle.tib_match.proofs.Kept.{IsKeptFrom}
use Rattle.tib_match.specs.declared.partial.Partial.{Partial}
use Rattle.tib_match.proofs.merging.merge.Given as goal

abbrev pub invariant-loop-partial : goal.invariant-loop-partial
invariant-loop-partial l = (all : List Partial) → IsKeptFrom l.kept.items (into_iter_items l.partial-iterator) all → IsKeptFrom [] (into_iter_items l.initial.partial-iterator) all
