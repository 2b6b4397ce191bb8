use Rattle.std.proofs.Common.{◌<◌, length}
use Rattle.std.specs.declared.cmp.Ordering.{Ordering}
use Rattle.tib_ranked_trees.specs.Ranked.{IsOrderOf}
use Rattle.tib_ranked_trees.proofs.kept.Trees.compare.Given as goal

abbrev pub invariant-loop-left : goal.invariant-loop-left
invariant-loop-left l =
    (l.left < length l.self) × (l.right < length l.self)
    × ((order : Ordering) → IsOrderOf l.self l.ranks l.left l.right order → IsOrderOf l.self l.ranks l.fn.one l.fn.other order)

abbrev pub decreases-loop-left : goal.decreases-loop-left
decreases-loop-left l = l.left
