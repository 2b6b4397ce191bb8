use Rattle.std.proofs.Common.{◌≡◌, ◌≤◌, length, drop}
use Rattle.tib_tree.specs.Trees.{parse}
use Rattle.tib_tree.specs.Pairs.{pairs_of}
use Rattle.tib_weigh.specs.Found.{IsBlank}
use Rattle.tib_weigh.specs.Vectors.{vectors, Weighed}
use Rattle.tib_weigh.proofs.weighing.weigh_by.Given as goal

abbrev pub invariant-loop-i : goal.invariant-loop-i
invariant-loop-i g l = record {
  within : l.i ≤ length l.nodes;
  blank : IsBlank l.room.found;
  long : length l.room.found.costs.items ≡ length l.normal.names;
  weighed : Weighed g.S.Semiring.product l.normal.rules (parse (drop l.i (pairs_of l.nodes))) (vectors l.stack.items);
}

abbrev pub decreases-loop-i : goal.decreases-loop-i
decreases-loop-i g l = l.i
