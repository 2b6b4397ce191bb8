use Rattle.std.proofs.Common.{◌-◌, length}
use Rattle.tib_tree.specs.Trees.{Tree, most_nodes}
use Rattle.tib_ranked_trees.specs.Numbers.{IsNamed, NumbersBelow, back}
use Rattle.tib_ranked_trees.proofs.Remaining.{Remains}
use Rattle.tib_ranked_trees.proofs.kept.Trees.preorder.Given as goal

abbrev pub invariant-loop-next : goal.invariant-loop-next
invariant-loop-next l =
    NumbersBelow (length l.self) (back l.stack.items) × ((t : Tree _) → IsNamed l.self l.fn.tree t → Remains l.self t l.stack.items l.nodes.items)

abbrev pub decreases-loop-next : goal.decreases-loop-next
decreases-loop-next l = most_nodes - length l.nodes.items
