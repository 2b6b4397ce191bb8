use Rattle.std.proofs.Common.{◌≡◌, length}
use Rattle.std.specs.Prelude.{sum_by}
use Rattle.tib_count.specs.Order.{IsSearching, changes_left}
use Rattle.tib_count.proofs.order.search.Given as goal

abbrev pub invariant-loop-state : goal.invariant-loop-state
invariant-loop-state l = record {
  long : length l.phases ≡ length l.initial.phases;
  searching : IsSearching l.edges.froms.items l.edges.tos.items l.phases l.cursors l.path.items l.order.items;
}

abbrev pub decreases-loop-state : goal.decreases-loop-state
decreases-loop-state l = sum_by changes_left l.phases
