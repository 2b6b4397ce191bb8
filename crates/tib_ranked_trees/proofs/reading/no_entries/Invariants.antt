use Rattle.std.proofs.Common.{◌≡◌}
use Rattle.std.specs.Prelude.{replicate, map, []}
use Rattle.tib_ranked_trees.specs.ListsOf.{items_of}
use Rattle.tib_ranked_trees.proofs.reading.no_entries.Given as goal

abbrev pub invariant-loop-state : goal.invariant-loop-state
invariant-loop-state l = map items_of l.lists.items ≡ replicate l._state []
