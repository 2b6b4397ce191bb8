use Rattle.std.proofs.Common.{◌≡◌, ◌++◌}
use Rattle.std.specs.Vec.Iter.{into_iter_items}
use Rattle.tib_match.specs.Leading.{partials_of, all_taken}
use Rattle.tib_match.proofs.partial.take_all.Given as goal

abbrev pub invariant-loop-partial : goal.invariant-loop-partial
invariant-loop-partial l = partials_of l.found.items ++ all_taken (partials_of (into_iter_items l.partial-iterator)) ≡ all_taken (partials_of l.fn.old.items)
