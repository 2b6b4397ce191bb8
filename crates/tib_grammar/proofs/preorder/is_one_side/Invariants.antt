use Rattle.std.proofs.Common.{◌≡◌, ◌≤◌, ◌+◌, length, drop}
use Rattle.tib_tree.specs.Trees.{HasChildren, parse, count}
use Rattle.tib_grammar.specs.Items.{pairs_of}
use Rattle.tib_grammar.proofs.preorder.is_one_side.Given as goal

abbrev pub invariant-loop-i : goal.invariant-loop-i
invariant-loop-i g l = record {
  within : l.i ≤ length l.items;
  nested : HasChildren (drop l.i (pairs_of l.items));
  roots : l.roots ≡ count (parse (drop l.i (pairs_of l.items)));
  few : l.roots + l.i ≤ length l.items;
}

abbrev pub decreases-loop-i : goal.decreases-loop-i
decreases-loop-i g l = l.i
