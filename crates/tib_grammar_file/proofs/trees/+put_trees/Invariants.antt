use Rattle.std.proofs.Common.{◌≡◌, ◌≤◌, ◌++◌, ℕ, List, length, drop, ◌-◌}
use Rattle.tib_tree.specs.Trees.{Trees, preorder}
use Rattle.tib_tree.specs.Trees.{count as count_of}
use Rattle.tib_grammar.specs.Items.{pairs_of}
use Rattle.tib_grammar.specs.Sides.{Symbol}
use Rattle.tib_grammar_file.proofs.PrintingTrees.{Half}
use Rattle.tib_grammar_file.specs.TreeText.{symbol_text}
use Rattle.tib_grammar_file.proofs.trees.+put_trees.Given as goal

abbrev pub decreases-put_trees : goal.decreases-put_trees
decreases-put_trees g l = length l.items.now - l.at

abbrev pub invariant-loop-k : goal.invariant-loop-k
invariant-loop-k g l = record {
  within : l.next ≤ length l.items;
  from : l.at ≤ l.next;
  half : (ts : Trees (Symbol ℕ g.row.N-Leaf.Denot)) (ys : List (Symbol ℕ g.row.N-Leaf.Denot × ℕ)) → pairs_of (drop l.at l.items) ≡ preorder ts ++ ys → count_of ts ≡ l.count → Half g.W.Sink.seen l.fn.out l.out (symbol_text (g.N.Notation.label_text l.names) (g.N.Notation.leaf_text l.names l.labels) l.labels) l.items ts ys l.at l.k l.count l.next;
}
