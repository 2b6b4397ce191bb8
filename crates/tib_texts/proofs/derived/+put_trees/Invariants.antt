use Rattle.std.proofs.Common.{◌≡◌, ◌≤◌, ◌++◌, ℕ, List, length, take, drop, ◌-◌}
use Rattle.tib_tree.specs.Trees.{Trees, preorder}
use Rattle.tib_tree.specs.Trees.{count as count_of}
use Rattle.tib_grammar.specs.Items.{pairs_of, holes_in}
use Rattle.tib_grammar.specs.Sides.{Symbol}
use Rattle.tib_transducer.specs.declared.Pair.{Pair}
use Rattle.tib_grammar_file.proofs.PrintingTrees.{Half}
use Rattle.tib_transducer_file.specs.Printed.{pair_text, symbol_text}
use Rattle.tib_rulewise.specs.Placed.{placed_items}
use Rattle.tib_rulewise.specs.Derivations.{read_from}
use Rattle.tib_texts.proofs.derived.+put_trees.Given as goal

abbrev pub decreases-put_trees : goal.decreases-put_trees
decreases-put_trees g l = length l.items.now - l.at

abbrev pub invariant-loop-k : goal.invariant-loop-k
invariant-loop-k g l = record {
  within : l.next ≤ length l.items;
  from : l.at ≤ l.next;
  count : l.variable ≡ length (holes_in (take l.next l.items));
  half : (ts : Trees (Symbol ℕ (Pair ℕ))) (ys : List (Symbol ℕ (Pair ℕ) × ℕ)) → pairs_of (drop l.at (placed_items read_from 0 l.items)) ≡ preorder ts ++ ys → count_of ts ≡ l.count → Half g.W.Sink.seen l.fn.out l.out (symbol_text (pair_text l.names l.labels) l.labels) (placed_items read_from 0 l.items) ts ys l.at l.k l.count l.next;
}
