use Rattle.std.proofs.Common.{◌≡◌, ℕ, ◌+◌, ◌*◌, ◌≤◌, length}
use Rattle.tib_tree.specs.Trees.{Tree}
use Rattle.tib_tree.specs.Filled.{nodes_of_tree, sized_back}
use Rattle.tib_tree.specs.Trees.{only}
use Rattle.tib_tree.proofs.Placing.{Placed}
use Rattle.tib_tree.proofs.preorder.place_nodes.Given as goal

abbrev pub invariant-loop-count : goal.invariant-loop-count
invariant-loop-count l = record {
  few : length l.counts.items ≤ length l.nodes.items + 1;
  all : length l.nodes.items + length l.back.items ≡ length l.fn.back.items;
  placed : (t : Tree ℕ) → l.fn.back.items ≡ sized_back (only t) → Placed l.nodes.items l.counts.items l.back.items (nodes_of_tree t);
}

abbrev pub decreases-loop-count : goal.decreases-loop-count
decreases-loop-count l = 2 * length l.back.items + length l.counts.items
