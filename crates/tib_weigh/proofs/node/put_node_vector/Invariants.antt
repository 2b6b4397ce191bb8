use Rattle.std.proofs.Common.{◌≤◌, ◌<◌, ℕ, length, take, get_or}
use Rattle.tib_tree.specs.Trees.{Trees, first_trees}
use Rattle.tib_cost.specs.Least.{IsLeast}
use Rattle.tib_grammar.specs.Run.{rule_at}
use Rattle.tib_weigh.specs.Entries.{cost_in, EndsBy, IsAscending}
use Rattle.tib_weigh.specs.Vectors.{vectors, Weighed}
use Rattle.tib_weigh.proofs.Among.{BeginsAmong}
use Rattle.tib_weigh.proofs.node.put_node_vector.Given as goal

abbrev pub invariant-loop-position : goal.invariant-loop-position
invariant-loop-position g l = record {
  ascends : IsAscending l.vector.items;
  ends : (j : ℕ) → l.position-index ≤ j → j < length l.positions → EndsBy (rule_at l.rules (get_or l.positions j 0)).left l.vector.items;
  least : (ts : Trees ℕ) → Weighed g.S.Semiring.product l.rules ts (vectors l.stack) → (q : ℕ) →
      IsLeast (BeginsAmong g.S.Semiring.product l.rules q l.label (first_trees l.rank ts) (take l.position-index l.positions)) (cost_in l.vector.items q);
}
