use Rattle.std.proofs.Common.{◌≡◌, ◌≤◌, ◌+◌, length, drop}
use Rattle.tib_tree.specs.Trees.{count, parse}
use Rattle.tib_grammar.specs.Items.{pairs_of, holes_in}
use Rattle.tib_match.specs.Counting.{AreCounted}
use Rattle.tib_match.proofs.counting.count_lists.Given as goal

abbrev pub invariant-loop-i : goal.invariant-loop-i
invariant-loop-i g l = record {
  within : l.i ≤ length l.items;
  waiting : length l.columns.items ≡ count (parse (pairs_of (drop l.i l.items)));
  before : l.holes + length (holes_in (drop l.i l.items)) ≡ length (holes_in l.items);
  columns : AreCounted g.S.Semiring.product l.normal.rules (pairs_of (drop l.i l.items)) (drop l.holes l.costs) l.columns.items;
}

abbrev pub decreases-loop-i : goal.decreases-loop-i
decreases-loop-i g l = l.i
