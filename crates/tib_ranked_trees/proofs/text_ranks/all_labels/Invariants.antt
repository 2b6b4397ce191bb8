use Rattle.std.proofs.Common.{◌≡◌, ◌≤◌, ◌-◌, length}
use Rattle.tib_ranked_trees.proofs.Placed.{AreFirst}
use Rattle.tib_ranked_trees.proofs.text_ranks.all_labels.Given as goal

abbrev pub invariant-loop-label : goal.invariant-loop-label
invariant-loop-label l =
    (l.label ≤ length l.labels) × (length l.order.items ≡ l.label) × AreFirst l.order.items

abbrev pub decreases-loop-label : goal.decreases-loop-label
decreases-loop-label l = length l.labels - l.label
